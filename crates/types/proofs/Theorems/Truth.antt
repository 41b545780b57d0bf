-- What a record says by what its operands say: truth at a type, and membership in an interpretation.
--   evaluate-over, evaluate_cong                 what a record says, from its atom and its operands
--   evaluate_atom                                what an atom's record says
--   OverFiller, restriction-over                 what holds of a restriction's filler
--   restricted_atom, some-earlier, all-earlier   restrictions are atoms, and their fillers come earlier
--   truth_eq, belongs_eq                         the equations of truth and of membership
--   truth_atom, belongs_atom                     at an atom
--   truth-statement, belongs-statement           at a statement in force
--   belongs-some, belongs-all                    at a restriction
--   atom_within                                  there is no atom past the end
-- Assumes nothing.
use Prim.Native.Nat.{ℕ, ◌<◌}
use native.Mathlib.Omega.{arith}
use native.Mathlib.Decide.{dec_lt}
use mathlib.Core.Path.{◌≡◌, refl, sym, ap, ap₂, subst, fun_ext, ◌∙◌}
use mathlib.Core.Bool.{Bool, true, false, not, ◌&&◌, ◌||◌}
use mathlib.Core.List.{List}
use Rattle.records.specs.Format.{record_at, count}
use Rattle.records.specs.Kinds.{Construct, none, top, bottom, name, negation, conjunction, disjunction, existential, universal}
use Rattle.records.specs.Kinds.{inclusion, construct_of, kind_of, is_atom}
use Rattle.records.specs.Finite.{any_below, all_below, bit}
use Rattle.records.specs.Chain.{in_force}
use Rattle.records.proofs.Laws.Tests.{clash}
use Rattle.records.proofs.Theorems.Accepted.{AcceptedFacts, Over, over-map}
use Rattle.records.proofs.Theorems.Constructs.{record_past, Earlier, construct_earlier, atomic, construct_atom}
use Rattle.records.proofs.Theorems.Constructs.{construct_inclusion}
use Rattle.records.proofs.Theorems.Chains.{force_statement}
use Rattle.records.specs.Atoms.{rank}
use Rattle.types.specs.Meaning.{Interpretation, Restriction, some, all, plain, restriction_of, restriction_at, evaluate}
use Rattle.types.specs.Meaning.{atom_at, extension_rule, belongs}
use Rattle.types.specs.Types.{truth_rule, truth}
use Rattle.records.proofs.Laws.InOrder.{Local, in_order}

-- The atom's own truth matters to atoms only, and of the operands what they say.
pub evaluate-over : (c : Construct) (x y : Bool) (f g : ℕ → Bool) → (atomic c ≡ true → x ≡ y) → Over (λ j. f j ≡ g j) c
    → evaluate c x f ≡ evaluate c y g
evaluate-over none x y f g a h = refl
evaluate-over top x y f g a h = refl
evaluate-over bottom x y f g a h = refl
evaluate-over name x y f g a h = a refl
evaluate-over (negation p) x y f g a h = ap not h.0
evaluate-over (conjunction p q) x y f g a h = ap₂ ◌&&◌ h.0 h.1.0
evaluate-over (disjunction p q) x y f g a h = ap₂ ◌||◌ h.0 h.1.0
evaluate-over (existential r b) x y f g a h = a refl
evaluate-over (universal r b) x y f g a h = a refl
evaluate-over (inclusion p q) x y f g a h = ap₂ (λ (p q : Bool). not p || q) h.0 h.1.0

pub evaluate_cong : (i : ℕ) (c : Construct) (x y : Bool) (f g : ℕ → Bool) → (atomic c ≡ true → x ≡ y) → Earlier i c
    → ((j : ℕ) → j < i → f j ≡ g j) → evaluate c x f ≡ evaluate c y g
evaluate_cong i c x y f g a e h = evaluate-over c x y f g a (over-map (λ j. j < i) (λ j. f j ≡ g j) h c e)

pub evaluate_atom : (c : Construct) (x : Bool) (f : ℕ → Bool) → atomic c ≡ true → evaluate c x f ≡ x
evaluate_atom none x f a = absurd (clash (cc))
evaluate_atom top x f a = absurd (clash (cc))
evaluate_atom bottom x f a = absurd (clash (cc))
evaluate_atom name x f a = refl
evaluate_atom (negation p) x f a = absurd (clash (cc))
evaluate_atom (conjunction p q) x f a = absurd (clash (cc))
evaluate_atom (disjunction p q) x f a = absurd (clash (cc))
evaluate_atom (existential r b) x f a = refl
evaluate_atom (universal r b) x f a = refl
evaluate_atom (inclusion p q) x f a = absurd (clash (cc))

-- Not plain.
abbrev pub restricted : Restriction → Bool
restricted (some r b) = true
restricted (all r b) = true
restricted plain = false

restriction_atomic : (c : Construct) → restricted (restriction_of c) ≡ true → atomic c ≡ true
restriction_atomic none e = absurd (clash (cc))
restriction_atomic top e = absurd (clash (cc))
restriction_atomic bottom e = absurd (clash (cc))
restriction_atomic name e = refl
restriction_atomic (negation p) e = absurd (clash (cc))
restriction_atomic (conjunction p q) e = absurd (clash (cc))
restriction_atomic (disjunction p q) e = absurd (clash (cc))
restriction_atomic (existential r b) e = refl
restriction_atomic (universal r b) e = refl
restriction_atomic (inclusion p q) e = absurd (clash (cc))

-- P of the filler of a restriction.
abbrev pub OverFiller : (ℕ → Type 0) → Restriction → Type 0
OverFiller P (some r b) = P b
OverFiller P (all r b) = P b
OverFiller P plain = Unit {0}

pub restriction-over : (P : ℕ → Type 0) (c : Construct) → Over P c → OverFiller P (restriction_of c)
restriction-over P none h = tt
restriction-over P top h = tt
restriction-over P bottom h = tt
restriction-over P name h = tt
restriction-over P (negation p) h = tt
restriction-over P (conjunction p q) h = tt
restriction-over P (disjunction p q) h = tt
restriction-over P (existential r b) h = h.0
restriction-over P (universal r b) h = h.0
restriction-over P (inclusion p q) h = tt

-- The filler of a restriction comes before record i.
abbrev FillerEarlier : ℕ → Restriction → Type 0
FillerEarlier i k = OverFiller (λ j. j < i) k

-- An atom's truth at d goes by the earlier records.
atom_cong : (I : Interpretation) (i d : ℕ) (k : Restriction) (f g : ℕ → ℕ → Bool) → FillerEarlier i k
    → ((j : ℕ) → j < i → f j ≡ g j) → atom_at I i k f d ≡ atom_at I i k g d
atom_cong I i d (some r b) f g e h = rw (h b e)
atom_cong I i d (all r b) f g e h = rw (h b e)
atom_cong I i d plain f g e h = refl

module _ (v : List ℕ) where
  -- an atom's record says so
  is_atomic : (i : ℕ) → is_atom (record_at v i).kind ≡ true → atomic (construct_of (record_at v i)) ≡ true
  is_atomic i a = sym (construct_atom (record_at v i)) ∙ a

  pub restricted_atom : (i : ℕ) (k : Restriction) → restriction_at v i ≡ k → restricted k ≡ true
      → is_atom (record_at v i).kind ≡ true
  restricted_atom i k q e =
      construct_atom (record_at v i) ∙ restriction_atomic (construct_of (record_at v i)) (ap restricted q ∙ e)

module _ (v : List ℕ) (good : AcceptedFacts v) where
  filler_earlier : (i : ℕ) (k : Restriction) → restriction_at v i ≡ k → FillerEarlier i k
  filler_earlier i k m =
      subst (FillerEarlier i) m (restriction-over (λ j. j < i) (construct_of (record_at v i)) (construct_earlier v good i))

  pub some-earlier : (i r b : ℕ) → restriction_at v i ≡ some r b → b < i
  some-earlier i r b m = filler_earlier i (some r b) m

  pub all-earlier : (i r b : ℕ) → restriction_at v i ≡ all r b → b < i
  all-earlier i r b m = filler_earlier i (all r b) m

  truth_local : (t : ℕ) → Local false (truth_rule v t)
  truth_local t i f g h = evaluate_cong i (construct_of (record_at v i)) _ _ f g (λ a. refl) (construct_earlier v good i) h

  pub truth_eq : (t i : ℕ) → truth v t i ≡ evaluate (construct_of (record_at v i)) (bit t (rank v i)) (truth v t)
  unfolding truth
  truth_eq t i = in_order false (truth_rule v t) (truth_local t) i

  belongs_local : (I : Interpretation) → Local (λ d. false) (extension_rule I v)
  belongs_local I i f g h =
      fun_ext (λ d. evaluate_cong i (construct_of (record_at v i)) _ _ (λ j. f j d) (λ j. g j d)
      (λ a. atom_cong I i d (restriction_at v i) f g (filler_earlier i (restriction_at v i) refl) h)
      (construct_earlier v good i) (λ j l. ap (λ (p : ℕ → Bool). p d) (h j l)))

  pub belongs_eq : (I : Interpretation) (i d : ℕ)
      → belongs I v i d
      ≡ evaluate (construct_of (record_at v i)) (atom_at I i (restriction_at v i) (belongs I v) d) (λ j. belongs I v j d)
  unfolding belongs
  belongs_eq I i d = ap (λ (p : ℕ → Bool). p d) (in_order (λ d. false) (extension_rule I v) (belongs_local I) i)

  pub truth_atom : (t i : ℕ) → is_atom (record_at v i).kind ≡ true → truth v t i ≡ bit t (rank v i)
  truth_atom t i a =
      truth_eq t i ∙ evaluate_atom (construct_of (record_at v i)) (bit t (rank v i)) (truth v t) (is_atomic v i a)

  pub belongs_atom : (I : Interpretation) (i d : ℕ) → is_atom (record_at v i).kind ≡ true
      → belongs I v i d ≡ atom_at I i (restriction_at v i) (belongs I v) d
  belongs_atom I i d a =
      belongs_eq I i d ∙ evaluate_atom (construct_of (record_at v i)) _ (λ j. belongs I v j d) (is_atomic v i a)

  -- A statement in force says that its A lies within its B.
  force_inclusion : (i : ℕ) → in_force v i ≡ true → construct_of (record_at v i) ≡ inclusion (record_at v i).a (record_at v i).b
  force_inclusion i e = construct_inclusion (record_at v i) (force_statement v good i e).target

  pub truth-statement : (t i : ℕ) → in_force v i ≡ true
      → truth v t i ≡ (not (truth v t (record_at v i).a) || truth v t (record_at v i).b)
  truth-statement t i e = truth_eq t i ∙ ap (λ (c : Construct). evaluate c (bit t (rank v i)) (truth v t)) (force_inclusion i e)

  pub belongs-statement : (I : Interpretation) (i d : ℕ) → in_force v i ≡ true
      → belongs I v i d ≡ (not (belongs I v (record_at v i).a d) || belongs I v (record_at v i).b d)
  belongs-statement I i d e =
      let atom = atom_at I i (restriction_at v i) (belongs I v) d in
      belongs_eq I i d ∙ ap (λ (c : Construct). evaluate c atom (λ j. belongs I v j d)) (force_inclusion i e)

  belongs_restricted : (I : Interpretation) (i d : ℕ) (k : Restriction) → restriction_at v i ≡ k → restricted k ≡ true
      → belongs I v i d ≡ atom_at I i k (belongs I v) d
  belongs_restricted I i d k q e =
      belongs_atom I i d (restricted_atom v i k q e) ∙ ap (λ (k : Restriction). atom_at I i k (belongs I v) d) q

  pub belongs-some : (I : Interpretation) (i d r b : ℕ) → restriction_at v i ≡ some r b
      → belongs I v i d ≡ any_below (λ e. I.domain e && (I.roles r d e && belongs I v b e)) I.bound
  belongs-some I i d r b q = belongs_restricted I i d (some r b) q refl

  pub belongs-all : (I : Interpretation) (i d r b : ℕ) → restriction_at v i ≡ all r b
      → belongs I v i d ≡ all_below (λ e. not (I.domain e && I.roles r d e) || belongs I v b e) I.bound
  belongs-all I i d r b q = belongs_restricted I i d (all r b) q refl

-- There is no atom past the end.
pub atom_within : (v : List ℕ) → AcceptedFacts v → (i : ℕ) → is_atom (record_at v i).kind ≡ true → i < count v
unfolding kind_of
atom_within v good i e = at (dec_lt i (count v))
  where
    at : Dec (i < count v) → i < count v
    at (yes h) = h
    at (no n) =
        let past : is_atom (record_at v i).kind ≡ is_atom 0 = ap is_atom (record_past v i good.sized (omega arith)) in
        absurd (clash (cc))
