-- What a verdict rests on.
--   Term, Answered, answered                       where the comparison answers, no row refused
--   answers_always                                 where no row refuses, it answers
--   Decided, decided                               Equal if no survivor distinguishes the terms, else Different with the first
--   First, named-first                             the element that Different names
--   distinguishes_survivor, distinguishes-differ   a type that distinguishes the terms survives, and they differ at it
--   indistinct_same                                at a survivor that does not, they have the same truth
--   indistinct_equal                               terms that no survivor distinguishes are equal in every model
--   Apart, distinguishes-shown                     terms that a survivor distinguishes are apart in the interpretation written
--   distinguishes_unequal                          and so they are not equal in every model
-- Assumes nothing.
use Prim.Native.Nat.{ℕ, ◌≤◌, ◌<◌}
use native.Mathlib.Omega.{arith}
use mathlib.Core.Path.{◌≡◌, refl, sym, ap, subst, ◌∙◌}
use mathlib.Core.Bool.{Bool, true, false, cond, not, beq, ◌&&◌}
use mathlib.Core.List.{List, [], ◌++◌}
use lib.Dec.{ltb, leb}
use borrow.Author.Tests.{ltb-true, ltb-false, leb-true, le-leb}
use Rattle.records.specs.Outcome.{Outcome, accepted, refused, pass, ◌then◌}
use Rattle.records.specs.Format.{record_at, count}
use Rattle.records.specs.Kinds.{is_term}
use Rattle.records.specs.Check.{vocabulary_check}
use Rattle.records.proofs.Laws.Tests.{clash, both_left, both_right, both_rest}
use Rattle.records.proofs.Laws.Checks.{require_passed, then_passed}
use Rattle.records.proofs.Theorems.Accepted.{AcceptedFacts, accepted-vocabulary}
use Rattle.records.specs.Atoms.{atoms}
use Rattle.records.specs.Finite.{has, members}
use Rattle.types.specs.Meaning.{Interpretation, Element, belongs, Model, AlwaysEqual}
use Rattle.types.specs.Types.{types, truth}
use Rattle.types.specs.Survivors.{rounds, survivors}
use Rattle.std.specs.Prelude.{Some, None}
use Rattle.types.specs.Comparison.{Verdict, equal, different, distinguishes, first_distinguishing, counts, verdict_with, verdict}
use Rattle.types.specs.Comparison.{atom_limit, bitmap_bytes, term_check, atoms_check, lent_check, size_check, query_check}
use Rattle.types.specs.Comparison.{comparison}
use Rattle.types.specs.Bitmap.{bitmap, read_back}
use Rattle.records.proofs.Laws.Below.{least-holds, least-before}
use Rattle.types.proofs.Theorems.ElementTypes.{type_of, type_small, type_agrees, type_survives}
use Rattle.types.proofs.Theorems.ReadBack.{read_back_canonical, read_agrees, read-model}

-- x is the number of a term.
pub record Term (v : List ℕ) (x : ℕ) : Type 0 where
  pub within : x < count v
  pub term : is_term (record_at v x).kind ≡ true

-- What an answer gives.
pub record Answered (v : List ℕ) (a b lent : ℕ) (x : Verdict) : Type 0 where
  pub good : AcceptedFacts v
  pub first : Term v a
  pub second : Term v b
  pub few : atoms v ≤ atom_limit
  pub room : bitmap_bytes ≤ lent
  pub answer : verdict v a b ≡ x

term_passed : (v : List ℕ) (x : ℕ) → term_check v x ≡ pass → Term v x
term_passed v x e =
    let both = require_passed (ltb x (count v) && is_term (record_at v x).kind) 10 x e in
    record {
      within = ltb-true x (count v) (both_left (ltb x (count v)) (is_term (record_at v x).kind) both);
      term = both_right (ltb x (count v)) (is_term (record_at v x).kind) both;
    }

-- `then_passed` of records, for a first part that answers a number
counted : {B : Type 0} (o : Outcome ℕ) (b : Outcome B) (x : B) → (o then b) ≡ accepted x
    → (n : ℕ) × (o ≡ accepted n) × (b ≡ accepted x)
counted (accepted n) b x e = (n, refl, e)
counted (refused n p) b x e = absurd (clash (cc))

pub answered : (v : List ℕ) (a b lent : ℕ) (x : Verdict) → comparison v a b lent ≡ accepted x → Answered v a b lent x
unfolding comparison
answered v a b lent x e =
    let one = counted (vocabulary_check v) (query_check v a b lent then accepted (verdict v a b)) x e in
    let all = then_passed (query_check v a b lent) (accepted (verdict v a b)) x one.2 in
    let row10 = then_passed (term_check v a) (term_check v b then size_check (atoms v) lent) tt all.0 in
    let again = then_passed (term_check v b) (size_check (atoms v) lent) tt row10.1 in
    let row11 = then_passed (atoms_check (atoms v)) (lent_check lent) tt again.1 in
    let known : accepted (verdict v a b) ≡ accepted x = all.1 in
    record {
      good = accepted-vocabulary v one.0 one.1;
      first = term_passed v a row10.0;
      second = term_passed v b again.0;
      few = leb-true (atoms v) atom_limit (require_passed (leb (atoms v) atom_limit) 11 (atoms v) row11.0);
      room = leb-true bitmap_bytes lent (require_passed (leb bitmap_bytes lent) 12 0 row11.1);
      answer = cc;
    }

-- Where no row refuses, the comparison answers.
pub answers_always : (v : List ℕ) (a b lent m : ℕ) → vocabulary_check v ≡ accepted m → term_check v a ≡ pass
    → term_check v b ≡ pass
    → atoms v ≤ atom_limit → bitmap_bytes ≤ lent → comparison v a b lent ≡ accepted (verdict v a b)
unfolding comparison
answers_always v a b lent m e s t few room = rw (e, s, t, le-leb (atoms v) atom_limit few, le-leb bitmap_bytes lent room)

beq_same : (a b : Bool) → not (beq a b) ≡ false → a ≡ b
beq_same true true e = refl
beq_same true false e = absurd (clash (cc))
beq_same false true e = absurd (clash (cc))
beq_same false false e = refl

beq_apart : (a b : Bool) → not (beq a b) ≡ true → a ≡ not b
beq_apart true true e = absurd (clash (cc))
beq_apart true false e = refl
beq_apart false true e = refl
beq_apart false false e = absurd (clash (cc))

never_not : (a : Bool) → a ≡ not a → ⊥
never_not true e = clash (cc)
never_not false e = clash (cc)

-- No survivor distinguishes the terms and the answer is Equal, or there is a smallest one and it is named.
pub data Decided (v : List ℕ) (a b : ℕ) (x : Verdict) : Type 0 where
  same : ((t : ℕ) → t < types v → distinguishes v a b t ≡ false) → x ≡ equal (members (survivors v)) (rounds v) → Decided v a b x
  apart : first_distinguishing v a b < types v → x ≡ different (first_distinguishing v a b) (members (survivors v)) (rounds v)
      → Decided v a b x

verdict_decided : (v : List ℕ) (a b : ℕ) (x : Verdict) → verdict v a b ≡ x → Decided v a b x
unfolding verdict
verdict_decided v a b x e = at (ltb (first_distinguishing v a b) (types v)) refl e
  where
    at : (z : Bool) → ltb (first_distinguishing v a b) (types v) ≡ z
        → verdict_with (cond z (Some (first_distinguishing v a b)) None) (counts v) ≡ x → Decided v a b x
    at true q h = apart (ltb-true (first_distinguishing v a b) (types v) q) (sym h)
    at false q h =
        same (λ t l. least-before (types v) (distinguishes v a b) t
        (omega (arith, ltb-false (first_distinguishing v a b) (types v) q))) (sym h)

pub decided : (v : List ℕ) (a b lent : ℕ) (x : Verdict) → comparison v a b lent ≡ accepted x → Decided v a b x
decided v a b lent x e = verdict_decided v a b x (answered v a b lent x e).answer

-- t is the smallest survivor that distinguishes the terms.
pub record First (v : List ℕ) (a b t : ℕ) : Type 0 where
  pub differs : distinguishes v a b t ≡ true
  pub before : (u : ℕ) → u < t → distinguishes v a b u ≡ false

pub named-first : (v : List ℕ) (a b t s n : ℕ) → Decided v a b (different t s n) → First v a b t
named-first v a b t s n (same none q) = absurd (clash (cc))
named-first v a b t s n (apart l q) =
    let first : t ≡ first_distinguishing v a b = cc in
    subst (First v a b) (sym first)
    record { differs = least-holds (types v) (distinguishes v a b) l; before = least-before (types v) (distinguishes v a b) }

module _ (v : List ℕ) (a b : ℕ) where
  -- what a survivor that distinguishes the terms is
  pub distinguishes_survivor : (t : ℕ) → distinguishes v a b t ≡ true → has (survivors v) t ≡ true
  distinguishes_survivor t h = both_left (has (survivors v) t) (not (beq (truth v t a) (truth v t b))) h

  pub distinguishes-differ : (t : ℕ) → distinguishes v a b t ≡ true → truth v t a ≡ not (truth v t b)
  distinguishes-differ t h =
      beq_apart (truth v t a) (truth v t b) (both_right (has (survivors v) t) (not (beq (truth v t a) (truth v t b))) h)

  pub indistinct_same : (t : ℕ) → distinguishes v a b t ≡ false → has (survivors v) t ≡ true → truth v t a ≡ truth v t b
  indistinct_same t h s =
      beq_same (truth v t a) (truth v t b) (both_rest (has (survivors v) t) (not (beq (truth v t a) (truth v t b))) h s)

-- An interpretation in which element t belongs to one of the two terms alone, and which satisfies the statements.
abbrev pub Apart : Interpretation → List ℕ → ℕ → ℕ → ℕ → Type 0
Apart I v a b t = Model I v × Element I t × (belongs I v a t ≡ not (belongs I v b t))

module _ (v : List ℕ) (good : AcceptedFacts v) (a b : ℕ) where
  -- terms that no survivor distinguishes are equal in every model
  pub indistinct_equal : ((t : ℕ) → t < types v → distinguishes v a b t ≡ false) → AlwaysEqual v a b
  indistinct_equal none I model d at =
      let t = type_of I v d in
      sym (type_agrees v good I d a)
      ∙ indistinct_same v a b t (none t (type_small I v d)) (type_survives v good I model d at)
      ∙ type_agrees v good I d b

  -- terms that a survivor distinguishes are apart in the interpretation written
  pub distinguishes-shown : atoms v ≤ atom_limit → (t : ℕ) → distinguishes v a b t ≡ true → (rest : List ℕ)
      → Apart (read_back v (bitmap v ++ rest)) v a b t
  distinguishes-shown few t h rest =
      let s = distinguishes_survivor v a b t h in
      let agrees = read_agrees v good few rest in (
        read-model v good few rest t s,
        (read_back_canonical v rest few).inside t s,
        agrees a t s ∙ distinguishes-differ v a b t h ∙ sym (ap not (agrees b t s)),
      )

  -- and so they are not equal in every model
  pub distinguishes_unequal : atoms v ≤ atom_limit → first_distinguishing v a b < types v → AlwaysEqual v a b → ⊥
  distinguishes_unequal few l always =
      let t = first_distinguishing v a b in
      let I = read_back v (bitmap v ++ []) in
      let shown : Apart I v a b t = distinguishes-shown few t (least-holds (types v) (distinguishes v a b) l) [] in
      never_not (belongs I v b t) (sym (always I shown.0 t shown.1) ∙ shown.2)
