-- A set of types as an interpretation: "with bits for names and allowed pairs for roles".
--   Canonical             the interpretation's elements are the members of the set, its pairs the allowed ones
--   canonical_agrees      if the set serves its members, an element belongs to the terms true at it
--   canonical_satisfied   the statements are satisfied, if they hold at its members
--   canonical_model       so that it is a model, if the set has a member
-- Assumes nothing.
use Prim.Native.Nat.{ℕ, zero, suc, ◌<◌}
use native.Mathlib.Omega.{arith}
use mathlib.Core.Path.{◌≡◌, refl, sym, ap, ◌∙◌}
use mathlib.Core.Bool.{Bool, true, not, ◌||◌}
use mathlib.Core.List.{List}
use borrow.Author.Tests.{not-true}
use Rattle.records.specs.Format.{record_at, count}
use Rattle.records.specs.Kinds.{construct_of}
use Rattle.records.specs.Chain.{in_force}
use Rattle.records.proofs.Laws.Tests.{clash, implies_rest, unless_false, same_truth}
use Rattle.records.proofs.Theorems.Accepted.{AcceptedFacts}
use Rattle.records.proofs.Theorems.Constructs.{construct_earlier, construct_atom}
use Rattle.records.proofs.Theorems.Chains.{force_statement}
use Rattle.records.specs.Finite.{has}
use Rattle.types.specs.Meaning.{Interpretation, Element, Restriction, some, all, plain, restriction_at, belongs, atom_at}
use Rattle.types.specs.Meaning.{Within, Model}
use Rattle.types.specs.Types.{truth, allowed, served}
use Rattle.types.specs.Survivors.{satisfies, Serving}
use Rattle.records.proofs.Laws.Below.{all_at}
use Rattle.types.proofs.Theorems.Truth.{evaluate_cong, some-earlier, all-earlier, truth_eq, belongs_eq, truth_atom}
use Rattle.types.proofs.Theorems.Truth.{truth-statement}
use Rattle.types.proofs.Theorems.Witnesses.{Pair, some_holds, some_gives, all-holds, all_gives, some-allows, all-allows}
use Rattle.types.proofs.Theorems.Witnesses.{some-met, all-met}

pub record Canonical (v : List ℕ) (S : List Bool) (I : Interpretation) : Type 0 where
  pub inside : (t : ℕ) → has S t ≡ true → Element I t
  pub only : (t : ℕ) → Element I t → has S t ≡ true
  pub names : (i t : ℕ) → I.names i t ≡ truth v t i
  pub roles : (r t s : ℕ) → I.roles r t s ≡ allowed v r t s

-- The set serves each of its members.
abbrev pub Serves : List ℕ → List Bool → Type 0
Serves v S = (t : ℕ) → has S t ≡ true → served v S t ≡ true

-- The members of the set belong to term b where it is true.
abbrev pub Agrees : List ℕ → List Bool → Interpretation → ℕ → Type 0
Agrees v S I b = (t : ℕ) → has S t ≡ true → belongs I v b t ≡ truth v t b

module _ (v : List ℕ) (good : AcceptedFacts v) (S : List Bool) (serves : Serves v S) (I : Interpretation)
    (canonical : Canonical v S I) where
  canonical_pair : (r t s : ℕ) → Pair I r t s → (has S s ≡ true) × (allowed v r t s ≡ true)
  canonical_pair r t s p = (canonical.only s p.element, sym (canonical.roles r t s) ∙ p.joined)

  pair_canonical : (r t s : ℕ) → has S s ≡ true → allowed v r t s ≡ true → Pair I r t s
  pair_canonical r t s h a = record { element = canonical.inside s h; joined = canonical.roles r t s ∙ a }

  some_agrees : (i t r b : ℕ) → restriction_at v i ≡ some r b → has S t ≡ true → Agrees v S I b → belongs I v i t ≡ truth v t i
  some_agrees i t r b m h agrees = same_truth (belongs I v i t) (truth v t i) up down
    where
      up : belongs I v i t ≡ true → truth v t i ≡ true
      up e =
          let f = some_gives v good I i t r b m e in
          let p = canonical_pair r t f.0 f.1 in
          some-allows v good r t f.0 i b m p.1 (sym (agrees f.0 p.0) ∙ f.2)

      down : truth v t i ≡ true → belongs I v i t ≡ true
      down e =
          let f = some-met v good S t i r b m (serves t h) e in
          let w = f.1 in
          let pair = pair_canonical r t f.0 w.inside w.pair in
          some_holds v good I i t r b m f.0 pair (agrees f.0 w.inside ∙ w.wants)

  all_agrees : (i t r b : ℕ) → restriction_at v i ≡ all r b → has S t ≡ true → Agrees v S I b → belongs I v i t ≡ truth v t i
  all_agrees i t r b m h agrees = same_truth (belongs I v i t) (truth v t i) up down
    where
      up : belongs I v i t ≡ true → truth v t i ≡ true
      up e = unless_false (truth v t i) (λ n.
          let f = all-met v good S t i r b m (serves t h) n in
          let w = f.1 in
          let missed = not-true (truth v f.0 b) w.wants in
          let held = all_gives v good I i t r b m e f.0 (pair_canonical r t f.0 w.inside w.pair) in
          let same = agrees f.0 w.inside in
          clash (cc))

      down : truth v t i ≡ true → belongs I v i t ≡ true
      down e = all-holds v good I i t r b m (λ s p.
          let q = canonical_pair r t s p in
          agrees s q.0 ∙ all-allows v good r t s i b m q.1 e)

  plain_agrees : (i t : ℕ) → restriction_at v i ≡ plain → ((j : ℕ) → j < i → belongs I v j t ≡ truth v t j)
      → belongs I v i t ≡ truth v t i
  plain_agrees i t m below =
      belongs_eq v good I i t
      ∙ evaluate_cong i (construct_of (record_at v i)) _ _ (λ j. belongs I v j t) (truth v t)
      (λ a. ap (λ (k : Restriction). atom_at I i k (belongs I v) t) m ∙ canonical.names i t
      ∙ truth_atom v good t i (construct_atom (record_at v i) ∙ a))
      (construct_earlier v good i) below
      ∙ sym (truth_eq v good t i)

  agrees_below : (n i : ℕ) → i < n → Agrees v S I i
  agrees_below zero i l t h = absurd (omega arith)
  agrees_below (suc n) i l t h = at (restriction_at v i) refl (agrees_below n)
    where
      at : (k : Restriction) → restriction_at v i ≡ k → ((j : ℕ) → j < n → Agrees v S I j) → belongs I v i t ≡ truth v t i
      at (some r b) m below = some_agrees i t r b m h (below b (omega (arith, some-earlier v good i r b m)))
      at (all r b) m below = all_agrees i t r b m h (below b (omega (arith, all-earlier v good i r b m)))
      at plain m below = plain_agrees i t m (λ j g. below j (omega arith) t h)

  pub canonical_agrees : (i t : ℕ) → has S t ≡ true → belongs I v i t ≡ truth v t i
  canonical_agrees i = agrees_below (suc i) i (omega arith)

-- A set of types at which all statements hold besides.
module _ (v : List ℕ) (good : AcceptedFacts v) (S : List Bool) (set : Serving v S) (I : Interpretation)
    (canonical : Canonical v S I) where
  fits_at : (t i : ℕ) → has S t ≡ true → in_force v i ≡ true → truth v t i ≡ true
  unfolding satisfies
  fits_at t i h c =
      implies_rest (in_force v i) (truth v t i)
      (all_at (λ i. not (in_force v i) || truth v t i) (count v) (set.fit t h) i (force_statement v good i c).within) c

  pub canonical_satisfied : (i : ℕ) → in_force v i ≡ true → Within I v (record_at v i).a (record_at v i).b
  canonical_satisfied i c t at e =
      let h = canonical.only t at in
      let a = (record_at v i).a in
      let b = (record_at v i).b in
      let holds = sym (truth-statement v good t i c) ∙ fits_at t i h c in
      canonical_agrees v good S set.serves I canonical b t h
      ∙ implies_rest (truth v t a) (truth v t b) holds (sym (canonical_agrees v good S set.serves I canonical a t h) ∙ e)

  pub canonical_model : (t : ℕ) → has S t ≡ true → Model I v
  canonical_model t h = record { inhabited = (t, canonical.inside t h); satisfied = canonical_satisfied }
