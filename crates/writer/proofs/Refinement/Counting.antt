-- What the code leaves in the buffer where a term was added: the record, and an atom counted.
--   held_small       the k that a header holds is a number of 16 bits, and so is one more
--   raised-length    counting leaves as many bytes
--   term-written     the buffer is that with the grown bytes
-- Assumes nothing.
use Prim.Native.Nat.{ℕ, ◌+◌, ◌≤◌}
use native.Mathlib.Omega.{arith}
use mathlib.Core.Path.{◌≡◌, refl, sym, ap, subst, ◌∙◌}
use mathlib.Core.Bool.{Bool, true, false, cond, ◌&&◌}
use mathlib.Core.List.{List}
use lib.ListN.{length, take}
use lib.Dec.{eqb}
use borrow.Author.Tests.{eqb-true}
use Rattle.records.specs.Outcome.{accepted}
use Rattle.records.specs.Finite.{put}
use Rattle.records.specs.Format.{record_size, record_limit, place_of_next, word_bytes, record_bytes, record_at, edition}
use Rattle.records.specs.Format.{atoms_held}
use Rattle.records.specs.Kinds.{is_atom}
use Rattle.records.specs.Atoms.{atoms}
use Rattle.records.specs.declared.fields.Record.{Record}
use Rattle.records.proofs.Laws.Parts.{put-length, put_front, record_take, record_front}
use Rattle.records.proofs.Laws.Tests.{both_left, both_right}
use Rattle.records.proofs.Theorems.Accepted.{AcceptedFacts, rows-vocabulary}
use Rattle.records.proofs.Theorems.Bounds.{held-atoms, held-bound}
use Rattle.records.proofs.Theorems.Growth.{atoms-grown}
use Rattle.writer.specs.Additions.{Addition, term, new_record, linked, grown}
use Rattle.writer.specs.Calls.{buffer_after}
use Rattle.writer.specs.Code.Counting.{raised}
use Rattle.writer.proofs.Refinement.Buffer.{use_length, record_behind, link_behind}
use Rattle.writer.proofs.Theorems.Grown.{grown_grows, atoms-kept}
use Rattle.writer.proofs.Theorems.Outcomes.{Fit, fit_well}

module _ (buffer : List ℕ) (used kind a b : ℕ) (fit : Fit buffer used (term kind a b)) where
  abbrev x : Addition
  x = term kind a b

  abbrev in_use : List ℕ
  in_use = take used buffer

  abbrev good : AcceptedFacts in_use
  good = rows-vocabulary in_use fit.accepts

  -- a header is in use
  some : record_size ≤ used
  some = omega (arith, good.sized.least, use_length buffer used fit.within)

  header_use : record_at in_use 0 ≡ record_at buffer 0
  header_use = record_take buffer used 0 (omega (arith, some))

  held_use : atoms_held buffer ≡ atoms_held in_use
  held_use = ap (λ (r : Record). r.next) (sym header_use)

  pub header_fits_lem : record_size ≤ length buffer
  header_fits_lem = omega (arith, some, fit.within)

  pub held_small : atoms_held buffer ≤ record_limit
  held_small = subst (λ (n : ℕ). n ≤ record_limit) (sym held_use) (held-bound in_use fit.accepts)

  abbrev w : List ℕ
  w = linked in_use x

  edition-same : edition w ≡ edition buffer
  edition-same =
      ap (λ (r : Record). r.second) (record_front in_use (record_bytes (new_record x)) 0 good.sized.least ∙ header_use)

  -- with an atom, k is one more
  atoms-raised : edition buffer ≡ 2 → is_atom kind ≡ true → atoms w ≡ atoms_held buffer + 1
  atoms-raised two is =
      let grows = grown_grows in_use good x fit.addable in
      let more : atoms (grown in_use x) ≡ atoms in_use + 1
      = atoms-grown in_use (grown in_use x) (new_record x) (fit_well buffer used x fit) fit.few grows ∙ rw is in
      let held = held-atoms in_use fit.accepts (ap (λ (r : Record). r.second) header_use ∙ two) in
      omega (arith, atoms-kept in_use good kind a b, more, held, held_use)

  abbrev raise : Bool → List ℕ
  raise c = cond c (put buffer place_of_next (word_bytes (atoms_held buffer + 1))) buffer

  abbrev recount : Bool → List ℕ
  recount c = cond c (put w place_of_next (word_bytes (atoms w))) w

  written : (c : Bool) → (eqb (edition buffer) 2 && is_atom kind) ≡ c
      → put (raise c) used (record_bytes (new_record x)) ≡ buffer_after (accepted (recount c)) buffer
  written false q = record_behind buffer used fit.within (new_record x)
  written true q =
      let two = eqb-true (edition buffer) 2 (both_left (eqb (edition buffer) 2) (is_atom kind) q) in
      let more = atoms-raised two (both_right (eqb (edition buffer) 2) (is_atom kind) q) in
      let front = put_front in_use (record_bytes (new_record x)) place_of_next (word_bytes (atoms_held buffer + 1))
      good.sized.least in
      rw more (link_behind buffer used fit.within place_of_next (atoms_held buffer + 1) (new_record x) some fit.room
      ∙ ap (λ (l : List ℕ). buffer_after (accepted l) buffer) (sym front))

  pub raised-length : (others : List ℕ) → others ≡ raised kind buffer → length others ≡ length buffer
  raised-length others e = ap length e ∙ at (eqb (edition buffer) 2 && is_atom kind)
    where
      at : (c : Bool) → length (raise c) ≡ length buffer
      at true = put-length buffer place_of_next (word_bytes (atoms_held buffer + 1)) header_fits_lem
      at false = refl

  pub term-written : put (raised kind buffer) used (record_bytes (new_record x)) ≡ buffer_after (accepted (grown in_use x)) buffer
  unfolding grown
  term-written =
      written (eqb (edition buffer) 2 && is_atom kind) refl
      ∙ ap (λ (n : ℕ). buffer_after (accepted (recount (eqb n 2 && is_atom kind))) buffer) (sym edition-same)
