-- What the checks tell of a query that passed them.
--   query_passed, query_comparable      what the call may go on with
--   query_answers                       the answer is the verdict
-- Assumes nothing.
use Prim.Native.Nat.{ℕ}
use mathlib.Core.Path.{◌≡◌, ap, ◌∙◌}
use mathlib.Core.List.{List}
use Rattle.records.specs.Outcome.{accepted, pass}
use Rattle.records.specs.Check.{vocabulary_check}
use Rattle.types.specs.Comparison.{verdict, query_check, comparison}
use Rattle.types.proofs.Theorems.Verdicts.{Answered, answered}
use Rattle.types.specs.Code.Settling.{Comparable}
use Rattle.records.specs.Atoms.{atoms}
use Rattle.records.proofs.Theorems.Bounds.{vocabulary-count}

module _ (v : List ℕ) (a b lent m : ℕ) (records : vocabulary_check v ≡ accepted m) (fine : query_check v a b lent ≡ pass) where
  pub query_answers : comparison v a b lent ≡ accepted (verdict v a b)
  unfolding comparison
  query_answers = rw (records, fine)

  pub query_passed : Answered v a b lent (verdict v a b)
  query_passed = answered v a b lent (verdict v a b) query_answers

  pub query_comparable : (k : ℕ) → k ≡ atoms v → Comparable v a b k
  query_comparable k e =
      record {
        settles = record {
          accepts = records ∙ ap (λ (n : ℕ). accepted n) (vocabulary-count v m records);
          few = query_passed.few;
          counts = e;
        };
        first = query_passed.first.within;
        second = query_passed.second.within;
      }
