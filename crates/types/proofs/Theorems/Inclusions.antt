-- Inclusion in every model, by the survivors.
--   Implied                          at each survivor at which a is true, b is
--   implied_within, within_implied   that is so exactly if a lies within b in every model
--   equal_both, both_equal           terms are equal in every model exactly if each lies within the other in every model
-- Assumes nothing.
use Prim.Native.Nat.{ℕ, ◌≤◌}
use mathlib.Core.Path.{◌≡◌, sym, ◌∙◌}
use mathlib.Core.Bool.{true}
use mathlib.Core.List.{List, [], ◌++◌}
use Rattle.records.specs.Atoms.{atoms}
use Rattle.records.specs.Finite.{has}
use Rattle.records.proofs.Laws.Tests.{same_truth}
use Rattle.records.proofs.Theorems.Accepted.{AcceptedFacts}
use Rattle.types.specs.Meaning.{belongs, AlwaysEqual, AlwaysWithin}
use Rattle.types.specs.Types.{truth}
use Rattle.types.specs.Survivors.{survivors}
use Rattle.types.specs.Comparison.{atom_limit}
use Rattle.types.specs.Bitmap.{bitmap, read_back}
use Rattle.types.proofs.Theorems.ElementTypes.{type_of, type_agrees, type_survives}
use Rattle.types.proofs.Theorems.ReadBack.{read_back_canonical, read_agrees, read-model}

abbrev pub Implied : List ℕ → ℕ → ℕ → Type 0
Implied v a b = (t : ℕ) → has (survivors v) t ≡ true → truth v t a ≡ true → truth v t b ≡ true

module _ (v : List ℕ) (good : AcceptedFacts v) (a b : ℕ) where
  -- an element's type survives, and the element belongs to the terms true at it
  pub implied_within : Implied v a b → AlwaysWithin v a b
  implied_within implied I model d at e =
      let t = type_of I v d in
      sym (type_agrees v good I d b) ∙ implied t (type_survives v good I model d at) (type_agrees v good I d a ∙ e)

  -- a survivor is an element of the interpretation written
  pub within_implied : atoms v ≤ atom_limit → AlwaysWithin v a b → Implied v a b
  within_implied few always t s e =
      let I = read_back v (bitmap v ++ []) in
      let agrees = read_agrees v good few [] in
      let element = (read_back_canonical v [] few).inside t s in
      sym (agrees b t s) ∙ always I (read-model v good few [] t s) t element (agrees a t s ∙ e)

module _ (v : List ℕ) (a b : ℕ) where
  pub equal_both : AlwaysEqual v a b → AlwaysWithin v a b × AlwaysWithin v b a
  equal_both same = (λ I model d at e. sym (same I model d at) ∙ e, λ I model d at e. same I model d at ∙ e)

  pub both_equal : AlwaysWithin v a b → AlwaysWithin v b a → AlwaysEqual v a b
  both_equal up down I model d at = same_truth (belongs I v a d) (belongs I v b d) (up I model d at) (down I model d at)
