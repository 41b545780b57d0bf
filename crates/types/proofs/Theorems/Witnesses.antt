-- Restrictions by their witnesses: elements joined by a role, and types allowed for it.
--   Pair                                    e is an element that a pair of the role joins to d
--   some_holds, some_gives                  "some-role holds at d if a pair (d, e) has e in B"
--   all-holds, all_gives, all_misses        "all-role holds if every such e is in B"
--   some-allows, all-allows                 what an allowed pair of types gives
--   Witness, witness_holds, witness_gives   a witness in a set of types
--   some-met, all-met                       one that a set which serves a type has
-- Assumes nothing.
use Prim.Native.Nat.{ℕ, ◌<◌}
use mathlib.Core.Path.{◌≡◌, refl, sym, ap, ◌∙◌}
use mathlib.Core.Bool.{Bool, true, false, not, ◌&&◌, ◌||◌, or-false}
use mathlib.Core.List.{List}
use lib.Dec.{eqb}
use borrow.Author.Tests.{eq-eqb}
use Rattle.records.specs.Format.{count}
use Rattle.records.proofs.Laws.Tests.{both_left, both_right, both_true, either_rest, implies_true, implies_rest, not_both}
use Rattle.records.proofs.Laws.Search.{any_intro, any_elim}
use Rattle.records.proofs.Theorems.Accepted.{AcceptedFacts}
use Rattle.records.specs.Finite.{has}
use Rattle.types.specs.Meaning.{Interpretation, Element, Restriction, some, all, restriction_at, belongs}
use Rattle.types.specs.Types.{types, truth, allows, allowed, witnessed, met, served}
use Rattle.records.proofs.Laws.Below.{all_intro, all_at, all_fails}
use Rattle.types.proofs.Theorems.Truth.{restricted, restricted_atom, belongs-some, belongs-all, atom_within}

-- The tests of the two kinds of restriction, and of a witness in a set of types.
abbrev reaches : Interpretation → List ℕ → ℕ → ℕ → ℕ → ℕ → Bool
reaches I v r d b e = I.domain e && (I.roles r d e && belongs I v b e)

abbrev keeps : Interpretation → List ℕ → ℕ → ℕ → ℕ → ℕ → Bool
keeps I v r d b e = not (I.domain e && I.roles r d e) || belongs I v b e

abbrev serving : List ℕ → List Bool → ℕ → ℕ → (ℕ → Bool) → ℕ → Bool
serving v S t r wanted s = has S s && (allowed v r t s && wanted s)

pub record Pair (I : Interpretation) (r d e : ℕ) : Type 0 where
  pub element : Element I e
  pub joined : I.roles r d e ≡ true

module _ (I : Interpretation) (r d e : ℕ) where
  pair_test : Pair I r d e → (I.domain e && I.roles r d e) ≡ true
  pair_test p = both_true (I.domain e) (I.roles r d e) p.element.inside p.joined

  test_pair : e < I.bound → (I.domain e && I.roles r d e) ≡ true → Pair I r d e
  test_pair l h =
      record {
        element = record { below = l; inside = both_left (I.domain e) (I.roles r d e) h };
        joined = both_right (I.domain e) (I.roles r d e) h;
      }

module _ (v : List ℕ) (good : AcceptedFacts v) (I : Interpretation) (i d r b : ℕ) where
  pub some_holds : restriction_at v i ≡ some r b → (e : ℕ) → Pair I r d e → belongs I v b e ≡ true → belongs I v i d ≡ true
  some_holds m e p h =
      belongs-some v good I i d r b m
      ∙ any_intro (reaches I v r d b) I.bound e p.element.below
      (both_true (I.domain e) (I.roles r d e && belongs I v b e) p.element.inside
      (both_true (I.roles r d e) (belongs I v b e) p.joined h))

  pub some_gives : restriction_at v i ≡ some r b → belongs I v i d ≡ true → (e : ℕ) × Pair I r d e × (belongs I v b e ≡ true)
  some_gives m h =
      let f = any_elim (reaches I v r d b) I.bound (sym (belongs-some v good I i d r b m) ∙ h) in
      let e = f.0 in
      let inside = both_left (I.domain e) (I.roles r d e && belongs I v b e) f.2 in
      let rest = both_right (I.domain e) (I.roles r d e && belongs I v b e) f.2 in
      let joined = both_left (I.roles r d e) (belongs I v b e) rest in (
        e,
        record { element = record { below = f.1; inside = inside }; joined = joined },
        both_right (I.roles r d e) (belongs I v b e) rest,
      )

  pub all-holds : restriction_at v i ≡ all r b → ((e : ℕ) → Pair I r d e → belongs I v b e ≡ true) → belongs I v i d ≡ true
  all-holds m h =
      belongs-all v good I i d r b m
      ∙ all_intro (keeps I v r d b) I.bound
      (λ e l. implies_true (I.domain e && I.roles r d e) (belongs I v b e) (λ p. h e (test_pair I r d e l p)))

  pub all_gives : restriction_at v i ≡ all r b → belongs I v i d ≡ true → (e : ℕ) → Pair I r d e → belongs I v b e ≡ true
  all_gives m h e p =
      let kept = all_at (keeps I v r d b) I.bound (sym (belongs-all v good I i d r b m) ∙ h) e p.element.below in
      implies_rest (I.domain e && I.roles r d e) (belongs I v b e) kept (pair_test I r d e p)

  pub all_misses : restriction_at v i ≡ all r b → belongs I v i d ≡ false → (e : ℕ) × Pair I r d e × (belongs I v b e ≡ false)
  all_misses m h =
      let f = all_fails (keeps I v r d b) I.bound (sym (belongs-all v good I i d r b m) ∙ h) in
      let e = f.0 in
      let parts = not_both (I.domain e && I.roles r d e) (belongs I v b e) f.2 in
      (e, test_pair I r d e f.1 parts.0, parts.1)

-- A member of the set, allowed for the role, at which the filler's truth is as wanted.
pub record Witness (v : List ℕ) (S : List Bool) (t r : ℕ) (wanted : ℕ → Bool) (s : ℕ) : Type 0 where
  pub small : s < types v
  pub inside : has S s ≡ true
  pub pair : allowed v r t s ≡ true
  pub wants : wanted s ≡ true

module _ (v : List ℕ) (S : List Bool) (t r : ℕ) (wanted : ℕ → Bool) where
  pub witness_holds : (s : ℕ) → Witness v S t r wanted s → witnessed v S t r wanted ≡ true
  witness_holds s w =
      any_intro (serving v S t r wanted) (types v) s w.small
      (both_true (has S s) (allowed v r t s && wanted s) w.inside
      (both_true (allowed v r t s) (wanted s) w.pair w.wants))

  pub witness_gives : witnessed v S t r wanted ≡ true → (s : ℕ) × Witness v S t r wanted s
  witness_gives h =
      let f = any_elim (serving v S t r wanted) (types v) h in
      let s = f.0 in
      let inside = both_left (has S s) (allowed v r t s && wanted s) f.2 in
      let rest = both_right (has S s) (allowed v r t s && wanted s) f.2 in
      let pair = both_left (allowed v r t s) (wanted s) rest in
      (s, record { small = f.1; inside = inside; pair = pair; wants = both_right (allowed v r t s) (wanted s) rest })

module _ (v : List ℕ) (good : AcceptedFacts v) where
  restriction-within : (i : ℕ) (k : Restriction) → restriction_at v i ≡ k → restricted k ≡ true → i < count v
  restriction-within i k m e = atom_within v good i (restricted_atom v i k m e)

  -- what record i says of an allowed pair
  allowed_at : (r t s i : ℕ) (k : Restriction) → restriction_at v i ≡ k → restricted k ≡ true → allowed v r t s ≡ true
      → allows v r t s i k ≡ true
  unfolding allowed
  allowed_at r t s i k m e h =
      sym (ap (allows v r t s i) m)
      ∙ all_at (λ i. allows v r t s i (restriction_at v i)) (count v) h i (restriction-within i k m e)

  pub some-allows : (r t s i b : ℕ) → restriction_at v i ≡ some r b → allowed v r t s ≡ true → truth v s b ≡ true
      → truth v t i ≡ true
  some-allows r t s i b m h w =
      let says = allowed_at r t s i (some r b) m refl h in
      let same = implies_rest (eqb r r) (truth v t i || not (truth v s b)) says (eq-eqb r r refl) in
      rw (w, or-false (truth v t i)) at same

  pub all-allows : (r t s i b : ℕ) → restriction_at v i ≡ all r b → allowed v r t s ≡ true → truth v t i ≡ true
      → truth v s b ≡ true
  all-allows r t s i b m h w =
      let says = allowed_at r t s i (all r b) m refl h in
      let same = implies_rest (eqb r r) (not (truth v t i) || truth v s b) says (eq-eqb r r refl) in
      implies_rest (truth v t i) (truth v s b) same w

  -- what record i needs of a set that serves t
  met_at_lem : (S : List Bool) (t i : ℕ) (k : Restriction) → restriction_at v i ≡ k → restricted k ≡ true → served v S t ≡ true
      → met v S t i k ≡ true
  unfolding served
  met_at_lem S t i k m e h =
      sym (ap (met v S t i) m) ∙ all_at (λ i. met v S t i (restriction_at v i)) (count v) h i (restriction-within i k m e)

  pub some-met : (S : List Bool) (t i r b : ℕ) → restriction_at v i ≡ some r b → served v S t ≡ true → truth v t i ≡ true
      → (s : ℕ) × Witness v S t r (λ s. truth v s b) s
  some-met S t i r b m h w =
      let wanted : ℕ → Bool = λ s. truth v s b in
      witness_gives v S t r wanted (implies_rest (truth v t i) (witnessed v S t r wanted) (met_at_lem S t i (some r b) m refl h)
      w)

  pub all-met : (S : List Bool) (t i r b : ℕ) → restriction_at v i ≡ all r b → served v S t ≡ true → truth v t i ≡ false
      → (s : ℕ) × Witness v S t r (λ s. not (truth v s b)) s
  all-met S t i r b m h w =
      let wanted : ℕ → Bool = λ s. not (truth v s b) in
      witness_gives v S t r wanted (either_rest (truth v t i) (witnessed v S t r wanted) (met_at_lem S t i (all r b) m refl h) w)
