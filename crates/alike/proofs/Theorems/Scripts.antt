-- By vocabularies that look alike a script is judged the same.
--   columns_alike   the columns of each owner
--   form_alike      the form
--   chain_alike     the run along the chain
--   script_alike    the script check, refusals included
-- Only the last asks that the vocabularies are accepted. Assumes nothing.
use Prim.Native.Nat.{ℕ, zero, suc}
use mathlib.Core.Path.{◌≡◌, refl, sym, ap, ap₂, fun_ext, ◌∙◌}
use mathlib.Core.Bool.{Bool, true, false}
use mathlib.Core.List.{List}
use Rattle.records.specs.Outcome.{accepted}
use Rattle.records.specs.Check.{vocabulary_check}
use Rattle.columns.specs.Literals.{SkolemTerm, Literal, complementary, no_literal}
use Rattle.columns.specs.Columns.{Query, states, columns_at}
use Rattle.scripts.specs.Steps.{Extension, Step, start, extension, reduction}
use Rattle.scripts.specs.Format.{Line, blank, theConstant, applied, step, query_of, line_of, entry_at, chain}
use Rattle.scripts.specs.Form.{function_fits, step_fits, line_fits, entry_check, form_check}
use Rattle.scripts.specs.Run.{Setting, chain_check, written_out, step_at, script_check}
use Rattle.alike.specs.Alike.{Alike}
use Rattle.alike.proofs.Theorems.Truth.{states_alike}
use Rattle.alike.proofs.Theorems.Comparison.{term_alike}

module _ (v w : List ℕ) (alike : Alike v w) where
  pub columns_alike : (q : Query) (owner : ℕ) → columns_at v q owner ≡ columns_at w q owner
  unfolding columns_at
  columns_alike q zero = refl
  columns_alike q (suc i) = at (states v (suc i)) refl
    where
      at : (b : Bool) → states v (suc i) ≡ b → columns_at v q (suc i) ≡ columns_at w q (suc i)
      at true e = rw (sym (states_alike v w alike (suc i)) ∙ e, e, alike.says (suc i) e)
      at false e = rw (sym (states_alike v w alike (suc i)) ∙ e, e)

  -- the same, of all owners at once
  columns_same : columns_at v ≡ columns_at w
  columns_same = fun_ext (λ q. fun_ext (columns_alike q))

  -- what a run is over
  setting_alike : (q : Query) → written_out v q ≡ written_out w q
  setting_alike q =
      ap₂ setting (fun_ext (λ e. rw (columns_alike q e.owner))) (fun_ext (λ n. rw (columns_alike q 0)))
    where
      setting : (Extension SkolemTerm → List (Literal SkolemTerm)) → (ℕ → List (Literal SkolemTerm))
          → Setting SkolemTerm (Literal SkolemTerm)
      setting uses starts = record { uses = uses; starts = starts; opposed = complementary; nothing = no_literal }

  module _ (s : List ℕ) where
    -- row 17
    function_alike : (i : ℕ) (l : Line) → function_fits v s i l ≡ function_fits w s i l
    function_alike i blank = refl
    function_alike i theConstant = refl
    function_alike i (applied f t) = rw (alike.counts, alike.kinds f)
    function_alike i (step t) = refl

    -- row 18
    step_alike : (i : ℕ) (t : Step ℕ) → step_fits v s i t ≡ step_fits w s i t
    step_alike i (start n) = refl
    step_alike i (extension e) = rw columns_same
    step_alike i (reduction f) = refl

    line_alike : (i : ℕ) (l : Line) → line_fits v s i l ≡ line_fits w s i l
    line_alike i blank = refl
    line_alike i theConstant = refl
    line_alike i (applied f t) = refl
    line_alike i (step t) = step_alike i t

    entry_alike : (i : ℕ) → entry_check v s i ≡ entry_check w s i
    unfolding entry_check
    entry_alike i = rw (function_alike i (line_of (entry_at s i)), line_alike i (line_of (entry_at s i)))

    pub form_alike : form_check v s ≡ form_check w s
    unfolding form_check
    form_alike = rw (term_alike v w alike (query_of s).a, term_alike v w alike (query_of s).b, fun_ext entry_alike)

    pub chain_alike : chain_check (written_out v (query_of s)) (step_at s) (chain s)
        ≡ chain_check (written_out w (query_of s)) (step_at s) (chain s)
    chain_alike =
        ap (λ (g : Setting SkolemTerm (Literal SkolemTerm)). chain_check g (step_at s) (chain s)) (setting_alike (query_of s))

  pub script_alike : (m n : ℕ) → vocabulary_check v ≡ accepted m → vocabulary_check w ≡ accepted n
      → (s : List ℕ) → script_check v s ≡ script_check w s
  unfolding script_check
  script_alike m n first second s = rw (first, second, form_alike s, chain_alike s)
