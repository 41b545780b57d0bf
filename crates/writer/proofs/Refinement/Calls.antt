-- What a call answers and leaves, by the outcome that its checks come to.
--   Answers                                    the answer and the buffer are those of an outcome
--   refused-answers, written-answers           of a refusal, which leaves the buffer, and of bytes that were written
--   linked-length                              the link leaves as many bytes
--   term-answers, statement-answers            of an addition that was written
-- Assumes nothing.
use Prim.Native.Nat.{ℕ, ◌+◌, ◌/◌}
use native.Mathlib.Omega.{arith}
use mathlib.Core.Path.{◌≡◌, sym, ap, ◌∙◌}
use mathlib.Core.List.{List}
use lib.ListN.{length, take}
use Rattle.records.specs.Outcome.{Outcome, accepted, refused}
use Rattle.records.specs.Finite.{put}
use Rattle.records.specs.Format.{record_size, word_bytes, record_bytes, count}
use Rattle.records.proofs.Laws.Parts.{put-length}
use Rattle.records.proofs.Theorems.Accepted.{AcceptedFacts, rows-vocabulary}
use Rattle.writer.specs.Additions.{Addition, term, statement, new_record, link_place, grown}
use Rattle.writer.specs.Calls.{adding, new_length, buffer_after}
use Rattle.writer.specs.Code.Counting.{raised}
use Rattle.writer.proofs.Refinement.Buffer.{use_length, use_count, link_behind}
use Rattle.writer.proofs.Refinement.Counting.{term-written}
use Rattle.writer.proofs.Theorems.Grown.{grown-length, link_within}
use Rattle.writer.proofs.Theorems.Outcomes.{Fit}

-- An answer and a buffer are those of an outcome.
abbrev pub Answers : Outcome (List ℕ) → List ℕ → Outcome ℕ → List ℕ → Type 0
Answers o buffer answer after = (answer ≡ new_length o) × (after ≡ buffer_after o buffer)

pub refused-answers : (o : Outcome (List ℕ)) (buffer : List ℕ) (n p : ℕ) → o ≡ refused n p
    → Answers o buffer (refused n p) buffer
refused-answers o buffer n p q = (rw q, rw q)

pub written-answers : (o : Outcome (List ℕ)) (buffer w after : List ℕ) (n : ℕ) → o ≡ accepted w → n ≡ length w
    → after ≡ buffer_after (accepted w) buffer → Answers o buffer (accepted n) after
written-answers o buffer w after n q e b = (rw (q, e), b ∙ rw q)

module _ (buffer : List ℕ) (used : ℕ) (y : Addition) (fit : Fit buffer used y) where
  abbrev in_use : List ℕ
  in_use = take used buffer

  abbrev good : AcceptedFacts in_use
  good = rows-vocabulary in_use fit.accepts

  long : (x : Addition) → used + record_size ≡ length (grown in_use x)
  long x = sym (grown-length in_use good x ∙ ap (λ (n : ℕ). n + record_size) (use_length buffer used fit.within))

  -- the link leaves as many bytes
  pub linked-length : (linked : List ℕ) → linked ≡ put buffer (link_place in_use) (word_bytes (used / record_size))
      → length linked ≡ length buffer
  linked-length linked e =
      ap length e
      ∙ put-length buffer (link_place in_use) (word_bytes (used / record_size))
      (omega (arith, link_within in_use good, use_length buffer used fit.within, fit.within))

  pub statement-answers : (a b : ℕ) (linked after : List ℕ) → let x = statement a b in
      adding buffer used x ≡ accepted (grown in_use x) → linked ≡ put buffer (link_place in_use) (word_bytes (used / record_size))
      → after ≡ put linked used (record_bytes (new_record x))
      → Answers (adding buffer used x) buffer (accepted (used + record_size)) after
  unfolding grown
  statement-answers a b linked after q l e =
      let x = statement a b in
      written-answers (adding buffer used x) buffer (grown in_use x) after _ q (long x)
      (e ∙ rw (l, ← use_count buffer used fit.within)
      (link_behind buffer used fit.within (link_place in_use) (count in_use) (new_record x)
      (omega (arith, link_within in_use good, use_length buffer used fit.within)) fit.room))

-- A term that was written.
module _ (buffer : List ℕ) (used kind a b : ℕ) (fit : Fit buffer used (term kind a b)) where
  abbrev x : Addition
  x = term kind a b

  pub term-answers : (counted after : List ℕ) → adding buffer used x ≡ accepted (grown (take used buffer) x)
      → counted ≡ raised kind buffer → after ≡ put counted used (record_bytes (new_record x))
      → Answers (adding buffer used x) buffer (accepted (used + record_size)) after
  term-answers counted after q c e =
      written-answers (adding buffer used x) buffer (grown (take used buffer) x) after _ q (long buffer used x fit x)
      (e ∙ ap (λ (l : List ℕ). put l used (record_bytes (new_record x))) c ∙ term-written buffer used kind a b fit)
