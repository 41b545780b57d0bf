-- Where the classification answers: exactly where no row refuses, with the counts of the comparison.
--   Answered, answered   what an answer gives
--   answers_always       where no row refuses, it answers
--   first-survivors      the first buffer then holds the survivors
-- Assumes nothing.
use Prim.Native.Nat.{ℕ, ◌≤◌}
use mathlib.Core.Path.{◌≡◌, sym, ◌∙◌}
use mathlib.Core.List.{List}
use lib.ListN.{length, drop}
use lib.Dec.{leb}
use borrow.Author.Tests.{leb-true, le-leb}
use Rattle.records.specs.Outcome.{accepted, ◌then◌}
use Rattle.records.specs.Check.{vocabulary_rows, vocabulary_check}
use Rattle.records.specs.Atoms.{atoms}
use Rattle.records.proofs.Laws.Checks.{require_passed, then_passed}
use Rattle.records.proofs.Theorems.Accepted.{AcceptedFacts, rows-vocabulary, vocabulary_then}
use Rattle.types.specs.declared.answers.Counts.{Counts}
use Rattle.types.specs.Comparison.{atom_limit, bitmap_bytes, atoms_check, lent_check, size_check, counts}
use Rattle.types.specs.Bitmap.{HoldsSurvivors}
use Rattle.types.proofs.Theorems.ReadBack.{bitmap-holds}
use Rattle.taxonomy.specs.Taxonomy.{taxonomy_bytes, table_check, classification, first_after}

pub record Answered (v : List ℕ) (lent room : ℕ) (c : Counts) : Type 0 where
  pub good : AcceptedFacts v
  pub few : atoms v ≤ atom_limit
  pub first : bitmap_bytes ≤ lent
  pub second : taxonomy_bytes ≤ room
  pub answer : c ≡ counts v

module _ (v : List ℕ) (lent room : ℕ) where
  pub answered : (c : Counts) → classification v lent room ≡ accepted c → Answered v lent room c
  unfolding classification
  answered c e =
      let size = size_check (atoms v) lent in
      let last = table_check room then accepted (counts v) in
      let all = then_passed (vocabulary_rows v then size) last c (sym (vocabulary_then v size last) ∙ e) in
      let early = then_passed (vocabulary_rows v) size tt all.0 in
      let late = then_passed (table_check room) (accepted (counts v)) c all.1 in
      let sized = then_passed (atoms_check (atoms v)) (lent_check lent) tt early.1 in
      let known : accepted (counts v) ≡ accepted c = late.1 in
      record {
        good = rows-vocabulary v early.0;
        few = leb-true (atoms v) atom_limit (require_passed (leb (atoms v) atom_limit) 11 (atoms v) sized.0);
        first = leb-true bitmap_bytes lent (require_passed (leb bitmap_bytes lent) 12 0 sized.1);
        second = leb-true taxonomy_bytes room (require_passed (leb taxonomy_bytes room) 26 0 late.0);
        answer = cc;
      }

  pub answers_always : (m : ℕ) → vocabulary_check v ≡ accepted m → atoms v ≤ atom_limit → bitmap_bytes ≤ lent
      → taxonomy_bytes ≤ room → classification v lent room ≡ accepted (counts v)
  unfolding classification
  answers_always m e few first second =
      rw (e, le-leb (atoms v) atom_limit few, le-leb bitmap_bytes lent first, le-leb taxonomy_bytes room second)

-- "The first buffer .. as in the comparison": it holds the survivors.
pub first-survivors : (v lent room : List ℕ) (c : Counts) → classification v (length lent) (length room) ≡ accepted c
    → HoldsSurvivors v (first_after v lent room)
first-survivors v lent room c e =
    let a = answered v (length lent) (length room) c e in
    rw e (bitmap-holds v a.good a.few (drop bitmap_bytes lent))
