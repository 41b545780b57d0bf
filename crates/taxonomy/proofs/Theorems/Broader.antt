-- Broader names, in every finite interpretation that satisfies the statements.
--   broader-within, within-broader        b is broader than a exactly if a always lies within b
--   equivalent-equal, equal-equivalent    they are equivalent exactly if they are always equal
--   strictly_within, within_strictly      b is strictly broader exactly if that is so
--   Between, between-name, name-between   there is a name between them exactly if one is strictly between in this sense
-- Assumes nothing.
use Prim.Native.Nat.{ℕ, ◌≤◌, ◌<◌}
use mathlib.Core.Path.{◌≡◌, ap}
use mathlib.Core.Bool.{Bool, true, not, ◌&&◌, ◌||◌}
use mathlib.Core.List.{List}
use borrow.Author.Tests.{not-true}
use Rattle.records.specs.Atoms.{atoms}
use Rattle.records.specs.Finite.{has}
use Rattle.records.proofs.Laws.Tests.{clash, both_left, both_right, both_true, implies_true, implies_rest, unless_true}
use Rattle.records.proofs.Laws.Below.{all_intro, all_at}
use Rattle.records.proofs.Laws.Search.{any_intro, any_elim}
use Rattle.records.proofs.Theorems.Accepted.{AcceptedFacts}
use Rattle.types.specs.Meaning.{AlwaysEqual, AlwaysWithin}
use Rattle.types.specs.Types.{types, truth}
use Rattle.types.specs.Survivors.{survivors}
use Rattle.types.specs.Comparison.{atom_limit}
use Rattle.types.proofs.Theorems.Survivors.{survivors-serving}
use Rattle.types.proofs.Theorems.Inclusions.{Implied, implied_within, within_implied, equal_both, both_equal}
use Rattle.taxonomy.specs.Nearest.{StrictlyWithin}
use Rattle.taxonomy.specs.Taxonomy.{name_count, name_at, broader, equivalent, strictly_broader, between}

-- The test at one type: b is true there, or a is not, or it does not survive.
abbrev broader_at : List ℕ → ℕ → ℕ → ℕ → Bool
broader_at v a b t = not (has (survivors v) t && truth v t a) || truth v t b

module _ (v : List ℕ) (a b : ℕ) where
  broader_implied : broader v a b ≡ true → Implied v a b
  unfolding broader
  broader_implied h t s e =
      implies_rest (has (survivors v) t && truth v t a) (truth v t b)
      (all_at (broader_at v a b) (types v) h t ((survivors-serving v).small t s))
      (both_true (has (survivors v) t) (truth v t a) s e)

  implied_broader : Implied v a b → broader v a b ≡ true
  unfolding broader
  implied_broader implied =
      all_intro (broader_at v a b) (types v) (λ t l. implies_true (has (survivors v) t && truth v t a) (truth v t b)
      (λ h. implied t (both_left (has (survivors v) t) (truth v t a) h) (both_right (has (survivors v) t) (truth v t a) h)))

-- Name m is strictly between a and b.
pub record Between (v : List ℕ) (a b m : ℕ) : Type 0 where
  pub above : StrictlyWithin v a (name_at v m)
  pub below : StrictlyWithin v (name_at v m) b

module _ (v : List ℕ) (good : AcceptedFacts v) (few : atoms v ≤ atom_limit) where
  pub broader-within : (a b : ℕ) → broader v a b ≡ true → AlwaysWithin v a b
  broader-within a b h = implied_within v good a b (broader_implied v a b h)

  pub within-broader : (a b : ℕ) → AlwaysWithin v a b → broader v a b ≡ true
  within-broader a b always = implied_broader v a b (within_implied v good a b few always)

  pub equivalent-equal : (a b : ℕ) → equivalent v a b ≡ true → AlwaysEqual v a b
  equivalent-equal a b h =
      both_equal v a b (broader-within a b (both_left (broader v a b) (broader v b a) h))
      (broader-within b a (both_right (broader v a b) (broader v b a) h))

  pub equal-equivalent : (a b : ℕ) → AlwaysEqual v a b → equivalent v a b ≡ true
  equal-equivalent a b same =
      let both = equal_both v a b same in
      both_true (broader v a b) (broader v b a) (within-broader a b both.0) (within-broader b a both.1)

  pub strictly_within : (a b : ℕ) → strictly_broader v a b ≡ true → StrictlyWithin v a b
  strictly_within a b h =
      let back = not-true (broader v b a) (both_right (broader v a b) (not (broader v b a)) h) in (
        broader-within a b (both_left (broader v a b) (not (broader v b a)) h),
        λ always. let forth = within-broader b a always in clash (cc),
      )

  pub within_strictly : (a b : ℕ) → StrictlyWithin v a b → strictly_broader v a b ≡ true
  within_strictly a b strict =
      both_true (broader v a b) (not (broader v b a)) (within-broader a b strict.0)
      (ap not (unless_true (broader v b a) (λ h. strict.1 (broader-within b a h))))

  module _ (a b : ℕ) where
    -- the test of name m
    abbrev between_at : ℕ → Bool
    between_at m = strictly_broader v a (name_at v m) && strictly_broader v (name_at v m) b

    pub between-name : between v a b ≡ true → (m : ℕ) × (m < name_count v) × Between v a b m
    between-name h =
        let found = any_elim between_at (name_count v) h in
        let m = found.0 in
        let c = name_at v m in
        let above = both_left (strictly_broader v a c) (strictly_broader v c b) found.2 in
        let below = both_right (strictly_broader v a c) (strictly_broader v c b) found.2 in
        (m, found.1, record { above = strictly_within a c above; below = strictly_within c b below })

    pub name-between : (m : ℕ) → m < name_count v → Between v a b m → between v a b ≡ true
    name-between m l h =
        let c = name_at v m in
        any_intro between_at (name_count v) m l
        (both_true (strictly_broader v a c) (strictly_broader v c b) (within_strictly a c h.above)
        (within_strictly c b h.below))
