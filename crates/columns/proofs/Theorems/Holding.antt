-- When literals and columns hold.
--   beq_is, is_beq                 a test of signs
--   Says, says_holds, holds-says   what a literal says, and the test of it
--   complement-holds               a complement holds if the literal does not
--   lone_false                     a column of one literal, whose complement is so, does not hold
--   follows_false                  nor one with a literal and the complement of what follows from it
--   joint_false                    nor one with two literals and the complement of what follows from both
-- Assumes nothing.
use Prim.Native.Nat.{ℕ}
use mathlib.Core.Path.{◌≡◌, refl, sym}
use mathlib.Core.Bool.{Bool, true, false, beq, not, ◌&&◌}
use mathlib.Core.List.{List, [], ◌∷◌}
use Rattle.records.proofs.Laws.Tests.{clash}
use Rattle.types.specs.Meaning.{Interpretation, belongs}
use Rattle.columns.specs.Literals.{Literal, concept, role, complement}
use Rattle.columns.specs.Holding.{literal_holds, literals_hold}

pub beq_is : (s b : Bool) → beq s b ≡ true → b ≡ s
beq_is true true e = refl
beq_is true false e = absurd (clash (cc))
beq_is false true e = absurd (clash (cc))
beq_is false false e = refl

pub is_beq : (s b : Bool) → b ≡ s → beq s b ≡ true
is_beq true b e = rw e
is_beq false b e = rw e

beq_not : (s b : Bool) → beq (not s) b ≡ not (beq s b)
beq_not true true = refl
beq_not true false = refl
beq_not false true = refl
beq_not false false = refl

-- the tests of the columns below
follows : (a b : Bool) → (a ≡ true → b ≡ true) → (a && (not b && true)) ≡ false
follows true b h = rw (h refl)
follows false b h = refl

joint : (a b c : Bool) → (b ≡ true → c ≡ true → a ≡ true) → (not a && (b && (c && true))) ≡ false
joint true b c h = refl
joint false true true h = sym (h refl refl)
joint false true false h = refl
joint false false c h = refl

module _ (I : Interpretation) (v : List ℕ) where
  abbrev pub Says : Literal ℕ → Type 0
  Says (concept s i d) = belongs I v i d ≡ s
  Says (role s r d e) = I.roles r d e ≡ s

  says_holds : (l : Literal ℕ) → Says l → literal_holds I v l ≡ true
  says_holds (concept s i d) e = is_beq s (belongs I v i d) e
  says_holds (role s r d e) h = is_beq s (I.roles r d e) h

  holds-says : (l : Literal ℕ) → literal_holds I v l ≡ true → Says l
  holds-says (concept s i d) e = beq_is s (belongs I v i d) e
  holds-says (role s r d e) h = beq_is s (I.roles r d e) h

  pub complement-holds : (l : Literal ℕ) → literal_holds I v (complement l) ≡ not (literal_holds I v l)
  complement-holds (concept s i d) = beq_not s (belongs I v i d)
  complement-holds (role s r d e) = beq_not s (I.roles r d e)

  pub lone_false : (l : Literal ℕ) → Says l → literals_hold I v (complement l ∷ []) ≡ false
  unfolding literals_hold
  lone_false l h = rw (complement-holds l, says_holds l h)

  pub follows_false : (l m : Literal ℕ) → (Says l → Says m) → literals_hold I v (l ∷ complement m ∷ []) ≡ false
  unfolding literals_hold
  follows_false l m h =
      rw (complement-holds m)
      (follows (literal_holds I v l) (literal_holds I v m) (λ e. says_holds m (h (holds-says l e))))

  pub joint_false : (l m n : Literal ℕ) → (Says m → Says n → Says l) → literals_hold I v (complement l ∷ m ∷ n ∷ []) ≡ false
  unfolding literals_hold
  joint_false l m n h =
      rw (complement-holds l)
      (joint (literal_holds I v l) (literal_holds I v m) (literal_holds I v n)
      (λ e f. says_holds l (h (holds-says m e) (holds-says n f))))
