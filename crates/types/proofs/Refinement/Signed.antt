-- Kinds 7 and 8 read alike, by signed truths.
--   wants, gives                whether t needs a witness for restriction i; whether s is one
--   apart                       whether restriction i is of another role
--   says_some, says_all         what a record of kind 7, or 8, says
--   says_plain                  and one of another kind
--   allows-signed, met-signed   a restriction, whichever its kind
--   allows-plain, met-plain     another record forbids nothing and needs nothing
--   role-below                  the role of a restriction is below the count
-- Assumes nothing.
use Prim.Native.Nat.{ℕ, zero, suc, ◌<◌}
use native.Mathlib.Omega.{arith}
use mathlib.Core.Path.{◌≡◌, refl, sym, ap, subst, ◌∙◌}
use mathlib.Core.Bool.{Bool, true, false, not, ◌||◌, not-not}
use mathlib.Core.List.{List}
use mathlib.Core.Logic.{◌⊎◌, inl, inr}
use lib.Dec.{eqb}
use Rattle.records.specs.Format.{record_at, count, role_count}
use Rattle.records.specs.Kinds.{Construct, none, top, bottom, name, negation, conjunction, disjunction, existential, universal}
use Rattle.records.specs.Kinds.{inclusion, construct_of, kind_of, is_restriction}
use Rattle.records.proofs.Laws.Tests.{clash}
use Rattle.records.proofs.Theorems.Accepted.{AcceptedFacts}
use Rattle.records.proofs.Theorems.Constructs.{restricting, construct_restriction, RoleBelow, construct_role}
use Rattle.records.proofs.Laws.Ranges.{restriction-kind}
use Rattle.types.specs.Meaning.{some, all, plain, restriction_of, restriction_at}
use Rattle.types.specs.Types.{truth, allows, witnessed, met}
use Rattle.types.specs.Code.Words.{signed, negated}
use Rattle.types.proofs.Refinement.Restrictions.{restricts}

abbrev pub wants : List ℕ → ℕ → ℕ → Bool
wants v t i = signed (negated v i) (truth v t i)

abbrev pub gives : List ℕ → ℕ → ℕ → Bool
gives v s i = signed (negated v i) (truth v s (record_at v i).b)

abbrev pub apart : List ℕ → ℕ → ℕ → Bool
apart v r i = not (eqb (record_at v i).a r)

-- what is no restriction restricts nothing
inert : (c : Construct) → restricting c ≡ false → restriction_of c ≡ plain
inert none e = refl
inert top e = refl
inert bottom e = refl
inert name e = refl
inert (negation a) e = refl
inert (conjunction a b) e = refl
inert (disjunction a b) e = refl
inert (existential r b) e = absurd (clash (cc))
inert (universal r b) e = absurd (clash (cc))
inert (inclusion a b) e = refl

module _ (v : List ℕ) (i : ℕ) where
  pub says_some : (record_at v i).kind ≡ 7 → restriction_at v i ≡ some (record_at v i).a (record_at v i).b
  unfolding kind_of
  says_some e = ap (λ (k : ℕ). restriction_of ((kind_of k).says (record_at v i))) e

  pub says_all : (record_at v i).kind ≡ 8 → restriction_at v i ≡ all (record_at v i).a (record_at v i).b
  unfolding kind_of
  says_all e = ap (λ (k : ℕ). restriction_of ((kind_of k).says (record_at v i))) e

  pub says_plain : restricts v i ≡ false → restriction_at v i ≡ plain
  says_plain e = inert (construct_of (record_at v i)) (sym (construct_restriction (record_at v i)) ∙ e)

  pub allows-plain : (q t s : ℕ) → restricts v i ≡ false → allows v q t s i (restriction_at v i) ≡ true
  allows-plain q t s e = ap (allows v q t s i) (says_plain e)

  pub met-plain : (S : List Bool) (t : ℕ) → restricts v i ≡ false → met v S t i (restriction_at v i) ≡ true
  met-plain S t e = ap (met v S t i) (says_plain e)

  pub allows-signed : (q t s : ℕ) → restricts v i ≡ true
      → allows v q t s i (restriction_at v i) ≡ (apart v q i || (wants v t i || not (gives v s i)))
  allows-signed q t s e = at (restriction-kind (record_at v i).kind e)
    where
      at : ((record_at v i).kind ≡ 7) ⊎ ((record_at v i).kind ≡ 8)
          → allows v q t s i (restriction_at v i) ≡ (apart v q i || (wants v t i || not (gives v s i)))
      at (inl k) = rw (says_some k, k)
      at (inr k) = rw (says_all k, k, not-not)

  pub met-signed : (S : List Bool) (t : ℕ) → restricts v i ≡ true
      → met v S t i (restriction_at v i) ≡ (not (wants v t i) || witnessed v S t (record_at v i).a (λ s. gives v s i))
  met-signed S t e = at (restriction-kind (record_at v i).kind e)
    where
      at : ((record_at v i).kind ≡ 7) ⊎ ((record_at v i).kind ≡ 8)
          → met v S t i (restriction_at v i) ≡ (not (wants v t i) || witnessed v S t (record_at v i).a (λ s. gives v s i))
      at (inl k) = rw (says_some k, k)
      at (inr k) = rw (says_all k, k, not-not)

-- the header of an accepted vocabulary is no restriction
header-plain : (v : List ℕ) → AcceptedFacts v → restricts v 0 ≡ true → ⊥
unfolding kind_of
header-plain v good e = at (record_at v 0).kind good.header e
  where
    at : (k : ℕ) → k ≡ 16 → is_restriction k ≡ true → ⊥
    at k q h = clash (cc)

pub role-below : (v : List ℕ) → AcceptedFacts v → (i : ℕ) → i < count v → restricts v i ≡ true → (record_at v i).a < role_count v
unfolding kind_of
role-below v good zero l e = absurd (header-plain v good e)
role-below v good (suc i) l e = at (restriction-kind (record_at v (suc i)).kind e)
  where
    says : (k : ℕ) → (record_at v (suc i)).kind ≡ k → RoleBelow (role_count v) ((kind_of k).says (record_at v (suc i)))
    says k q =
        subst (λ (k : ℕ). RoleBelow (role_count v) ((kind_of k).says (record_at v (suc i)))) q
        (construct_role v good (suc i) (omega arith) l)

    at : ((record_at v (suc i)).kind ≡ 7) ⊎ ((record_at v (suc i)).kind ≡ 8) → (record_at v (suc i)).a < role_count v
    at (inl k) = (says 7 k).0
    at (inr k) = (says 8 k).0
