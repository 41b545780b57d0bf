-- The type of an element: which atoms hold there. In an interpretation that satisfies the statements it survives.
--   atom_record, record_of_atom    the record of an atom, by its number
--   type_of, type_small            an element's type
--   type_agrees                   the terms true at it are those the element belongs to
--   type_allowed                  a role's pairs are allowed pairs of types
--   type_satisfies, type_served   the statements hold at it, and a set with the types of all elements serves it
--   type_survives                 it is a survivor
-- Assumes nothing.
use Prim.Native.Nat.{ℕ, zero, suc, ◌<◌}
use native.Mathlib.Omega.{arith}
use mathlib.Core.Path.{◌≡◌, refl, sym, ap, subst, ◌∙◌}
use mathlib.Core.Bool.{Bool, true, false, not, ◌&&◌, ◌||◌}
use mathlib.Core.List.{List}
use lib.Dec.{eqb}
use borrow.Author.Tests.{eqb-true, eq-eqb}
use Rattle.records.specs.Format.{record_at, count}
use Rattle.records.specs.Kinds.{construct_of, is_atom}
use Rattle.records.specs.Chain.{in_force}
use Rattle.records.proofs.Laws.Tests.{clash, both_left, both_right, both_true, either_true, implies_true, unless_true}
use Rattle.records.proofs.Theorems.Accepted.{AcceptedFacts}
use Rattle.records.proofs.Theorems.Constructs.{construct_earlier, construct_atom}
use Rattle.records.specs.Atoms.{atoms, rank}
use Rattle.records.proofs.Theorems.Ranks.{rank_below, rank_same}
use Rattle.records.specs.Finite.{least, has, bit, number}
use Rattle.types.specs.Meaning.{Interpretation, Element, Restriction, some, all, plain, restriction_at, belongs, Model}
use Rattle.types.specs.Types.{types, truth, allows, allowed, witnessed, met, served}
use Rattle.types.specs.Survivors.{satisfies, stage, rounds, survivors}
use Rattle.records.proofs.Laws.Below.{all_intro, least-is}
use Rattle.records.proofs.Laws.Bits.{bit-number, number_small}
use Rattle.types.proofs.Theorems.Truth.{evaluate_cong, truth_eq, belongs_eq, belongs_atom, belongs-statement}
use Rattle.types.proofs.Theorems.Truth.{atom_within}
use Rattle.types.proofs.Theorems.Witnesses.{Pair, some_holds, some_gives, all_gives, all_misses, witness_holds}
use Rattle.types.proofs.Theorems.Survivors.{table-has, stage_keeps}

-- The record of atom j.
pub atom_record : List ℕ → ℕ → ℕ
atom_record v j = least (λ i. is_atom (record_at v i).kind && eqb (rank v i) j) (count v)

-- The type of element d: bit j says whether d belongs to atom j.
pub type_of : Interpretation → List ℕ → ℕ → ℕ
type_of I v d = number (atoms v) (λ j. belongs I v (atom_record v j) d)

-- The set has the type of each element.
abbrev pub Holds : Interpretation → List ℕ → List Bool → Type 0
Holds I v S = (d : ℕ) → Element I d → has S (type_of I v d) ≡ true

pub type_small : (I : Interpretation) (v : List ℕ) (d : ℕ) → type_of I v d < types v
unfolding type_of
type_small I v d = number_small (atoms v) (λ j. belongs I v (atom_record v j) d)

module _ (v : List ℕ) (good : AcceptedFacts v) where
  pub record_of_atom : (i : ℕ) → is_atom (record_at v i).kind ≡ true → atom_record v (rank v i) ≡ i
  unfolding atom_record
  record_of_atom i a =
      least-is (count v) (λ u. is_atom (record_at v u).kind && eqb (rank v u) (rank v i)) i (atom_within v good i a)
      (both_true (is_atom (record_at v i).kind) (eqb (rank v i) (rank v i)) a (eq-eqb (rank v i) (rank v i) refl)) other
    where
      other : (u : ℕ) → u < i → (is_atom (record_at v u).kind && eqb (rank v u) (rank v i)) ≡ false
      other u l = unless_true (is_atom (record_at v u).kind && eqb (rank v u) (rank v i)) (λ h.
          let b = both_left (is_atom (record_at v u).kind) (eqb (rank v u) (rank v i)) h in
          let e = eqb-true (rank v u) (rank v i) (both_right (is_atom (record_at v u).kind) (eqb (rank v u) (rank v i)) h) in
          omega (arith, rank_same v u i b a e))

  type_atom : (I : Interpretation) (d i : ℕ) → is_atom (record_at v i).kind ≡ true
      → bit (type_of I v d) (rank v i) ≡ belongs I v i d
  unfolding type_of
  type_atom I d i a =
      bit-number (atoms v) (λ j. belongs I v (atom_record v j) d) (rank v i) (rank_below v i (atom_within v good i a) a)
      ∙ ap (λ (i : ℕ). belongs I v i d) (record_of_atom i a)

  agrees_below : (I : Interpretation) (d n i : ℕ) → i < n → truth v (type_of I v d) i ≡ belongs I v i d
  agrees_below I d zero i l = absurd (omega arith)
  agrees_below I d (suc n) i l =
      truth_eq v good (type_of I v d) i
      ∙ evaluate_cong i (construct_of (record_at v i)) _ _ (truth v (type_of I v d)) (λ j. belongs I v j d)
      (λ a. let atom = construct_atom (record_at v i) ∙ a in type_atom I d i atom ∙ belongs_atom v good I i d atom)
      (construct_earlier v good i) (λ j h. agrees_below I d n j (omega arith))
      ∙ sym (belongs_eq v good I i d)

  pub type_agrees : (I : Interpretation) (d i : ℕ) → truth v (type_of I v d) i ≡ belongs I v i d
  type_agrees I d i = agrees_below I d (suc i) i (omega arith)

  module _ (I : Interpretation) where
    -- what a restriction says of a pair of its role
    type_some : (r d e i b : ℕ) → Pair I r d e → restriction_at v i ≡ some r b
        → (truth v (type_of I v d) i || not (truth v (type_of I v e) b)) ≡ true
    type_some r d e i b p m =
        either_true (truth v (type_of I v d) i) (not (truth v (type_of I v e) b))
        (λ n. ap not (unless_true (truth v (type_of I v e) b) (λ h.
        let holds = type_agrees I d i ∙ some_holds v good I i d r b m e p (sym (type_agrees I e b) ∙ h) in
        clash (cc))))

    type_all : (r d e i b : ℕ) → Pair I r d e → restriction_at v i ≡ all r b
        → (not (truth v (type_of I v d) i) || truth v (type_of I v e) b) ≡ true
    type_all r d e i b p m =
        implies_true (truth v (type_of I v d) i) (truth v (type_of I v e) b)
        (λ h. type_agrees I e b ∙ all_gives v good I i d r b m (sym (type_agrees I d i) ∙ h) e p)

    -- and of a pair of any role
    pair_same : (r q d e : ℕ) → Pair I r d e → eqb q r ≡ true → Pair I q d e
    pair_same r q d e p h = subst (λ (r : ℕ). Pair I r d e) (sym (eqb-true q r h)) p

    type_allows : (r d e i : ℕ) → Pair I r d e → (k : Restriction) → restriction_at v i ≡ k
        → allows v r (type_of I v d) (type_of I v e) i k ≡ true
    type_allows r d e i p (some q b) m = implies_true (eqb q r) _ (λ h. type_some q d e i b (pair_same r q d e p h) m)
    type_allows r d e i p (all q b) m = implies_true (eqb q r) _ (λ h. type_all q d e i b (pair_same r q d e p h) m)
    type_allows r d e i p plain m = refl

    pub type_allowed : (r d e : ℕ) → Pair I r d e → allowed v r (type_of I v d) (type_of I v e) ≡ true
    unfolding allowed
    type_allowed r d e p =
        all_intro (λ i. allows v r (type_of I v d) (type_of I v e) i (restriction_at v i)) (count v)
        (λ i l. type_allows r d e i p (restriction_at v i) refl)

    pub type_satisfies : Model I v → (d : ℕ) → Element I d → satisfies v (type_of I v d) ≡ true
    unfolding satisfies
    type_satisfies model d at =
        all_intro (λ i. not (in_force v i) || truth v (type_of I v d) i) (count v)
        (λ i l. implies_true (in_force v i) (truth v (type_of I v d) i) (λ c. type_agrees I d i ∙ belongs-statement v good I i d c
        ∙ implies_true (belongs I v (record_at v i).a d) (belongs I v (record_at v i).b d) (model.satisfied i c d at)))

    -- the type of an element joined to d is a witness
    type_witness : (S : List Bool) → Holds I v S → (r d e : ℕ) (wanted : ℕ → Bool) → Pair I r d e → wanted (type_of I v e) ≡ true
        → witnessed v S (type_of I v d) r wanted ≡ true
    type_witness S h r d e wanted p w =
        witness_holds v S (type_of I v d) r wanted (type_of I v e)
        record { small = type_small I v e; inside = h e p.element; pair = type_allowed r d e p; wants = w }

    type_met : (S : List Bool) → Holds I v S → (d i : ℕ) (k : Restriction) → restriction_at v i ≡ k
        → met v S (type_of I v d) i k ≡ true
    type_met S h d i (some r b) m =
        implies_true (truth v (type_of I v d) i) (witnessed v S (type_of I v d) r (λ s. truth v s b)) (λ q.
        let f = some_gives v good I i d r b m (sym (type_agrees I d i) ∙ q) in
        type_witness S h r d f.0 (λ s. truth v s b) f.1 (type_agrees I f.0 b ∙ f.2))
    type_met S h d i (all r b) m =
        either_true (truth v (type_of I v d) i) (witnessed v S (type_of I v d) r (λ s. not (truth v s b))) (λ q.
        let f = all_misses v good I i d r b m (sym (type_agrees I d i) ∙ q) in
        type_witness S h r d f.0 (λ s. not (truth v s b)) f.1 (ap not (type_agrees I f.0 b ∙ f.2)))
    type_met S h d i plain m = refl

    pub type_served : (S : List Bool) → Holds I v S → (d : ℕ) → served v S (type_of I v d) ≡ true
    unfolding served
    type_served S h d =
        all_intro (λ i. met v S (type_of I v d) i (restriction_at v i)) (count v) (λ i l. type_met S h d i (restriction_at v i)
        refl)

    pub type_survives : Model I v → (d : ℕ) → Element I d → has (survivors v) (type_of I v d) ≡ true
    unfolding stage survivors
    type_survives model =
        stage_keeps v (Holds I v)
        (λ S h d at. table-has (types v) (λ t. has S t && served v S t) (type_of I v d) (type_small I v d)
        (both_true (has S (type_of I v d)) (served v S (type_of I v d)) (h d at) (type_served S h d)))
        (λ d at. table-has (types v) (satisfies v) (type_of I v d) (type_small I v d) (type_satisfies model d at)) (rounds v)
