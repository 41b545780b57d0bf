-- The calculus is sound: what is derived is so in every finite interpretation satisfying the statements.
-- Suppose a model refutes the query. Its Skolem functions make every column false. By induction every goal of a derivation is
-- true, so the start column is: contradiction.
--   listed-column                a column that has positions is one of its owner's
--   truth_of, all_true, AllFalse   what literals say of the elements that their terms stand for
--   others_true                  a list is true if the literal at a position is, and the others
--   reduced-true                 a goal whose complement is on a path of false literals is true
--   extended-true                so is one whose complement is in a column whose others are true, as no column holds
--   derivation-sound             where no column holds, the open literals of a derivation with a path of false literals are true
--   derives-sound                "A within B" is so in every finite interpretation satisfying the statements, if it is derived
-- Assumes nothing.
use Prim.Native.Nat.{ℕ, zero, suc, ◌-◌, ◌<◌}
use native.Mathlib.Omega.{arith}
use native.Mathlib.Decide.{dec_lt}
use mathlib.Core.Path.{◌≡◌, refl, sym, ap, ◌∙◌}
use mathlib.Core.Bool.{Bool, true, false, not}
use mathlib.Core.List.{List, [], ◌∷◌, map}
use lib.ListN.{length, get_or, length-map, get_or-eq_default}
use borrow.Author.Tests.{not-false}
use Rattle.records.proofs.Laws.Tests.{clash, both_left, both_right, both_true, unless_false}
use Rattle.records.proofs.Theorems.Accepted.{AcceptedFacts}
use Rattle.records.proofs.Laws.Lists.{All, all-entry}
use Rattle.types.specs.Meaning.{Interpretation, belongs, AlwaysWithin}
use Rattle.columns.specs.Literals.{SkolemTerm, constant, Literal, concept, role, complement, substitute, no_literal}
use Rattle.columns.specs.Columns.{Column, Query, columns_at}
use Rattle.columns.specs.Holding.{literal_holds, literals_hold, Choice, NoneHolds, value}
use Rattle.columns.proofs.Theorems.Holding.{complement-holds}
use Rattle.columns.proofs.Theorems.Instances.{instance_false}
use Rattle.columns.proofs.Theorems.Skolem.{none-holds}
use Rattle.scripts.specs.Steps.{Extension, Step}
use Rattle.records.specs.Finite.{without}
use Rattle.scripts.specs.Calculus.{used_column, connected_literal, remainder, PositionExists, on_path, Derivation, ended}
use Rattle.scripts.specs.Calculus.{reduced, extended, Derives}
use Rattle.scripts.proofs.Theorems.Steps.{Literals}

listed-column : (l : List Column) (n p : ℕ) → p < length (get_or l n []) → n < length l
listed-column l n p h = at (dec_lt n (length l))
  where
    at : Dec (n < length l) → n < length l
    at (yes g) = g
    at (no m) =
        let empty : length (get_or l n []) ≡ 0 = ap length (get_or-eq_default l [] (omega arith)) in
        absurd (omega arith)

module _ (I : Interpretation) (v : List ℕ) (k : Choice I) where
  -- a literal about terms, at the elements for which they stand; and a list of them
  abbrev pub truth_of : Literal SkolemTerm → Bool
  truth_of l = literal_holds I v (substitute (value k) l)

  abbrev pub all_true : Literals → Bool
  all_true c = literals_hold I v (map (substitute (value k)) c)

  abbrev pub AllFalse : Literals → Type 0
  AllFalse path = All (λ l. truth_of l ≡ false) path

  complement-truth : (l : Literal SkolemTerm) → truth_of (complement l) ≡ not (truth_of l)
  complement-truth (concept s i t) = complement-holds I v (concept s i (value k t))
  complement-truth (role s r t u) = complement-holds I v (role s r (value k t) (value k u))

  true_cons : (l : Literal SkolemTerm) (c : Literals) → truth_of l ≡ true → all_true c ≡ true → all_true (l ∷ c) ≡ true
  unfolding literals_hold
  true_cons l c p h = both_true (truth_of l) (all_true c) p h

  others_true : (p : ℕ) (c : Literals) → p < length c → truth_of (get_or c p no_literal) ≡ true
      → all_true (without p c) ≡ true → all_true c ≡ true
  unfolding literals_hold without
  others_true p [] l h o = absurd (omega arith)
  others_true zero (m ∷ c) l h o = both_true (truth_of m) (all_true c) h o
  others_true (suc p) (m ∷ c) l h o =
      both_true (truth_of m) (all_true c) (both_left (truth_of m) (all_true (without p c)) o)
      (others_true p c (omega arith) h (both_right (truth_of m) (all_true (without p c)) o))

  reduced-true : (l : Literal SkolemTerm) (path : Literals) (f : ℕ) → f < length path
      → on_path path f ≡ complement l → AllFalse path → truth_of l ≡ true
  reduced-true l path f h p fails =
      let met = all-entry (λ l. truth_of l ≡ false) path no_literal fails (length path - suc f) (omega arith) in
      not-false (truth_of l) (sym (complement-truth l) ∙ sym (ap truth_of p) ∙ met)

  module _ (q : Query) (none : NoneHolds I k v q) where
    extended-true : (l : Literal SkolemTerm) (e : Extension SkolemTerm) → PositionExists v q e → connected_literal v q e
        ≡ complement l
        → (truth_of l ≡ false → all_true (remainder v q e) ≡ true) → truth_of l ≡ true
    extended-true l e h p above = unless_false (truth_of l) (λ f.
        let met : truth_of (connected_literal v q e) ≡ true = ap truth_of p ∙ complement-truth l ∙ ap not f in
        let long : e.position < length (used_column v q e) = rw length-map h in
        let holding = others_true e.position (used_column v q e) long met (above f) in
        let listed = listed-column (columns_at v q e.owner) e.column e.position h in
        let fails = instance_false I k e.owner e.first e.second v q none e.column listed in
        clash (cc))

    pub derivation-sound : {c path : Literals} → Derivation v q c path → AllFalse path → all_true c ≡ true
    unfolding literals_hold
    derivation-sound ended f = refl
    derivation-sound (reduced {l} {c} {path} n h p d) f =
        true_cons l c (reduced-true l path n h p f) (derivation-sound d f)
    derivation-sound (extended {l} {c} e h p above d) f =
        true_cons l c (extended-true l e h p (λ g. derivation-sound above (g, f))) (derivation-sound d f)

pub derives-sound : (v : List ℕ) → AcceptedFacts v → (q : Query) (list : List (Step SkolemTerm)) → Derives v q list
    → AlwaysWithin v q.a q.b
unfolding columns_at
derives-sound v good q list derives I model d at first = unless_false (belongs I v q.b d) (λ second.
    let chosen = none-holds v good q I model record { element = d; inside = at; first = first; second = second } in
    let k = chosen.0 in
    let holding = derivation-sound I v k q chosen.1 derives.derivation tt in
    let column = derives.column in
    let fails = instance_false I k 0 constant constant v q chosen.1 column (omega (arith, derives.listed)) in
    clash (cc))
