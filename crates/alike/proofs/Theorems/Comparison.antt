-- Vocabularies that look alike get the same comparison, and it writes the same.
--   vocabulary_alike   the vocabulary check answers the same count
--   term_alike         row 10
--   verdict_alike      the verdict on two terms
--   comparison_alike   the comparison's answer, refusals included
--   written_same       what a call that gives this answer writes in the first buffer
--   written_alike      what the comparison writes
-- Assumes nothing.
use Prim.Native.Nat.{ℕ}
use mathlib.Core.Path.{◌≡◌, refl, sym, ap, ap₂, fun_ext, ◌∙◌}
use mathlib.Core.Bool.{true, ◌&&◌}
use mathlib.Core.List.{List, ◌++◌}
use lib.ListN.{length, drop}
use lib.Dec.{ltb}
use Rattle.records.specs.Outcome.{Outcome, Check, accepted, refused, pass, ◌then◌}
use Rattle.records.specs.Format.{record_at, count}
use Rattle.records.specs.Kinds.{is_term}
use Rattle.records.specs.Check.{vocabulary_check}
use Rattle.records.specs.Finite.{least}
use Rattle.records.specs.Atoms.{atoms}
use Rattle.records.proofs.Laws.Tests.{both_right}
use Rattle.records.proofs.Laws.Checks.{then_same, require_passed, then_passed}
use Rattle.records.proofs.Theorems.Accepted.{AcceptedFacts, accepted-vocabulary}
use Rattle.records.proofs.Theorems.Bounds.{vocabulary-count}
use Rattle.types.specs.Comparison.{Verdict, first_distinguishing, distinguishes, verdict, bitmap_bytes, term_check, size_check}
use Rattle.types.specs.Comparison.{query_check, comparison}
use Rattle.types.specs.Bitmap.{written}
use Rattle.columns.specs.Columns.{states}
use Rattle.alike.specs.Alike.{Alike}
use Rattle.alike.proofs.Theorems.Truth.{term-states, atoms_alike, types_alike, truth_alike}
use Rattle.alike.proofs.Theorems.Survivors.{survivors_alike, rounds_alike, bitmap_alike}

-- What passes row 10 may have columns.
term_passed : (v : List ℕ) (x : ℕ) → term_check v x ≡ pass → states v x ≡ true
term_passed v x e =
    let fit = require_passed (ltb x (count v) && is_term (record_at v x).kind) 10 x e in
    term-states v x (both_right (ltb x (count v)) (is_term (record_at v x).kind) fit)

module _ (v w : List ℕ) (alike : Alike v w) where
  pub term_alike : (x : ℕ) → term_check v x ≡ term_check w x
  term_alike x = rw (alike.counts, alike.kinds x)

  query_alike : (a b lent : ℕ) → query_check v a b lent ≡ query_check w a b lent
  query_alike a b lent = rw (term_alike a, term_alike b, atoms_alike v w alike)

  module _ (good : AcceptedFacts v) (other : AcceptedFacts w) where
    first_distinguishing_lem : (a b : ℕ) → states v a ≡ true → states v b ≡ true
        → first_distinguishing v a b ≡ first_distinguishing w a b
    first_distinguishing_lem a b p q =
        let differ : (t : ℕ) → distinguishes v a b t ≡ distinguishes w a b t
        = λ t. rw (
          survivors_alike v w alike good other,
          truth_alike v w alike good other a p t,
          truth_alike v w alike good other b q t,
        ) in
        ap₂ least (fun_ext differ) (types_alike v w alike)

    pub verdict_alike : (a b : ℕ) → states v a ≡ true → states v b ≡ true → verdict v a b ≡ verdict w a b
    unfolding verdict
    verdict_alike a b p q =
        rw (
          first_distinguishing_lem a b p q,
          types_alike v w alike,
          survivors_alike v w alike good other,
          rounds_alike v w alike good other,
        )

    pub written_same : {A : Type 0} (o : Outcome A) (lent : List ℕ) → written o v lent ≡ written o w lent
    written_same (accepted x) lent = ap (λ (l : List ℕ). l ++ drop bitmap_bytes lent) (bitmap_alike v w alike good other)
    written_same (refused n p) lent = refl

  module _ (m n : ℕ) (first : vocabulary_check v ≡ accepted m) (second : vocabulary_check w ≡ accepted n) where
    pub vocabulary_alike : vocabulary_check v ≡ vocabulary_check w
    vocabulary_alike =
        let same : m ≡ n = vocabulary-count v m first ∙ alike.counts ∙ sym (vocabulary-count w n second) in
        first ∙ ap (λ (k : ℕ). accepted k) same ∙ sym second

    abbrev good : AcceptedFacts v
    good = accepted-vocabulary v m first

    abbrev other : AcceptedFacts w
    other = accepted-vocabulary w n second

    pub comparison_alike : (a b lent : ℕ) → comparison v a b lent ≡ comparison w a b lent
    unfolding comparison
    comparison_alike a b lent =
        rw (first, second) (then_same (query_check v a b lent) (accepted (verdict v a b)) (accepted (verdict w a b)) same
        ∙ ap (λ (c : Check). c then accepted (verdict w a b)) (query_alike a b lent))
      where
        same : query_check v a b lent ≡ pass → accepted (verdict v a b) ≡ accepted (verdict w a b)
        same e =
            let one = then_passed (term_check v a) (term_check v b then size_check (atoms v) lent) tt e in
            let two = then_passed (term_check v b) (size_check (atoms v) lent) tt one.1 in
            ap (λ (x : Verdict). accepted x)
            (verdict_alike good other a b (term_passed v a one.0) (term_passed v b two.0))

    pub written_alike : (a b : ℕ) (lent : List ℕ)
        → written (comparison v a b (length lent)) v lent ≡ written (comparison w a b (length lent)) w lent
    written_alike a b lent =
        ap (λ (o : Outcome Verdict). written o v lent) (comparison_alike a b (length lent))
        ∙ written_same good other (comparison w a b (length lent)) lent
