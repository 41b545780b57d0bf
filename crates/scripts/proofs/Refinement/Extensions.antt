-- What row 18 tells of an extension.
--   Extends, extends, read_extends         its position exists, its owner has 9 bits, its terms are records; of one that was read
--   Coded                                  a code, and the term that it stands for
--   term_coded, second_coded, apply_coded  the code of a term record; of the term for y; of a function at a term record
-- Assumes nothing.
use Prim.Native.Nat.{ℕ, ◌≤◌, ◌<◌}
use native.Mathlib.Omega.{arith}
use mathlib.Core.Path.{◌≡◌, ◌∙◌}
use mathlib.Core.Bool.{Bool, true, false, not, ◌&&◌, ◌||◌}
use mathlib.Core.List.{List}
use mathlib.Core.Logic.{◌⊎◌, inl, inr}
use lib.ListN.{length}
use lib.Dec.{ltb, eqb}
use borrow.Author.Tests.{ltb-true, eqb-true}
use Rattle.records.proofs.Laws.Tests.{both_left, both_right}
use Rattle.records.proofs.Theorems.Accepted.{AcceptedFacts, accepted-vocabulary}
use Rattle.columns.specs.Literals.{SkolemTerm, apply}
use Rattle.columns.specs.Columns.{column_at, takes_y}
use Rattle.records.specs.Outcome.{pass}
use Rattle.records.specs.Check.{IsAccepted}
use Rattle.scripts.specs.Steps.{Extension, extension}
use Rattle.scripts.specs.Format.{entries, query_of, extension_of, term_at}
use Rattle.scripts.specs.Form.{earlier_term, x_fits, y_fits, step_fits, form_check}
use Rattle.scripts.specs.Code.Codes.{TermRecord, origin, function_limit, code_of, code_at, code_term}
use Rattle.scripts.specs.Code.Ready.{IsExtension}
use Rattle.scripts.specs.declared.entry.StepRecord.{StepRecord}
use Rattle.scripts.proofs.Refinement.Lines.{step-extension}
use Rattle.scripts.proofs.Theorems.Form.{KeepsForm, keeps_form}
use Rattle.scripts.proofs.Refinement.Terms.{earlier-term, code_zero, header-term, header_code, apply_valid, apply-small}
use Rattle.scripts.proofs.Refinement.Terms.{apply-term, code_valid, code_small, code_term_lem}
use Rattle.scripts.proofs.Refinement.Literals.{Code, zero_code, owner-below}

-- Its column has its position; the terms for x and y are records, the one for y if there is one.
pub record Extends (v s : List ℕ) (e : Extension ℕ) : Type 0 where
  pub position : e.position < length (column_at v (query_of s) e.owner e.column)
  pub small : e.owner < function_limit
  pub first : TermRecord s e.first
  pub second : (e.second ≡ 0) ⊎ TermRecord s e.second

-- c is a code, and stands for t.
pub record Coded (s : List ℕ) (c : ℕ) (t : SkolemTerm) : Type 0 where
  pub code : Code s c
  pub stands : code_term s c ≡ t

module _ (v s : List ℕ) (good : AcceptedFacts v) (f : KeepsForm v s) where
  pub extends : (i : ℕ) (e : Extension ℕ) → i ≤ entries s → step_fits v s i (extension e) ≡ true → Extends v s e
  extends i e h fits =
      let c = column_at v (query_of s) e.owner e.column in
      let y = y_fits s i (takes_y c) e.second in
      let terms = x_fits s i e.owner e.first && y in
      let place = ltb-true e.position (length c) (both_left (ltb e.position (length c)) terms fits) in
      let rest = both_right (ltb e.position (length c)) terms fits in
      let fit = both_left (x_fits s i e.owner e.first) y rest in
      let early = both_left (earlier_term s i e.first) (not (eqb e.owner 0) || eqb e.first 1) fit in
      record {
        position = place;
        small = owner-below v s good f e.owner e.column e.position place;
        first = earlier-term s i e.first early h;
        second = at (takes_y c) (both_right (x_fits s i e.owner e.first) y rest);
      }
    where
      at : (b : Bool) → y_fits s i b e.second ≡ true → (e.second ≡ 0) ⊎ TermRecord s e.second
      at true q = inr (earlier-term s i e.second q h)
      at false q = inl (eqb-true e.second 0 q)

  pub term_coded : (n : ℕ) → TermRecord s n → Coded s (code_at s n) (term_at s n)
  term_coded n t =
      record { code = (code_small v s good f n t, code_valid v s good f n t); stands = code_term_lem v s good f n t }

  -- the header stands where there is no y
  pub second_coded : (n : ℕ) → (n ≡ 0) ⊎ TermRecord s n → Coded s (code_at s n) (term_at s n)
  second_coded n (inl e) =
      rw (e, header_code v s good f, header-term v s good f) (record { code = zero_code s; stands = code_zero s })
  second_coded n (inr t) = term_coded n t

  pub apply_coded : (i n : ℕ) → 0 < i → i < function_limit → TermRecord s n
      → Coded s (code_of i (origin s n)) (apply i (term_at s n))
  apply_coded i n p h t =
      record {
        code = (apply-small v s good f i n p h t, apply_valid v s good f i n p h t);
        stands = apply-term v s good f i n p h t;
      }

-- The same of a step that was read.
pub read_extends : (v s : List ℕ) → IsAccepted v → form_check v s ≡ pass → (t : StepRecord) → IsExtension s t
    → Extends v s (extension_of t.entry)
read_extends v s accepted form t x =
    let f = keeps_form v s form in
    let i = t.number in
    let here = x.read.step in
    extends v s (accepted-vocabulary v _ accepted) f i (extension_of t.entry)
    (omega (arith, here.within))
    (step-extension v s i t.entry x.kind ∙ (rw x.read.read (f.steps i here.positive here.within)))
