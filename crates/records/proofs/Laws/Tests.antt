-- Tests made of tests: how a conjunction, a disjunction or an implication is shown, and what it gives.
--   clash                               two different constructors are not equal
--   both_left, both_right               the parts of a true conjunction
--   either_left, either_right           the parts of a false disjunction
--   both_true, both_rest                a conjunction; the second part of a false one whose first part is true
--   both_first-false, both_first-true   a conjunction whose first test was made by a call
--   either_true, either_rest            a disjunction; its second part, if the first is false
--   implies_true, implies_rest          an implication, `not a || b`; its second part, if the first is true
--   not_both                            the parts of an implication that fails
--   unless_true, unless_false           a test that cannot hold; one that cannot fail
--   same_truth                          two tests that follow from each other
-- Assumes nothing.
use Prim.Native.Nat.{ℕ}
use native.Mathlib.Omega.{arith}
use mathlib.Core.Path.{◌≡◌, refl, sym, ◌∙◌}
use mathlib.Core.Bool.{Bool, true, false, not, ◌&&◌, ◌||◌}
use borrow.Author.Tests.{not-true, not-false}

-- what two different constructors would show, were they equal
pub clash : ◌≡◌ {A = ℕ} 0 1 → ⊥
clash e = omega arith

pub both_left : (a b : Bool) → (a && b) ≡ true → a ≡ true
both_left true b e = refl
both_left false b e = e

pub both_right : (a b : Bool) → (a && b) ≡ true → b ≡ true
both_right true b e = e
both_right false b e = absurd (clash (cc))

pub either_left : (a b : Bool) → (a || b) ≡ false → a ≡ false
either_left true b e = e
either_left false b e = refl

pub either_right : (a b : Bool) → (a || b) ≡ false → b ≡ false
either_right true b e = absurd (clash (cc))
either_right false b e = e

pub both_true : (a b : Bool) → a ≡ true → b ≡ true → (a && b) ≡ true
both_true a b p q = rw (p, q)

pub both_rest : (a b : Bool) → (a && b) ≡ false → a ≡ true → b ≡ false
both_rest true b e h = e
both_rest false b e h = absurd (clash (cc))

pub either_true : (a b : Bool) → (a ≡ false → b ≡ true) → (a || b) ≡ true
either_true true b h = refl
either_true false b h = h refl

pub either_rest : (a b : Bool) → (a || b) ≡ true → a ≡ false → b ≡ true
either_rest true b e h = absurd (clash (cc))
either_rest false b e h = e

pub implies_true : (a b : Bool) → (a ≡ true → b ≡ true) → (not a || b) ≡ true
implies_true true b h = h refl
implies_true false b h = refl

pub implies_rest : (a b : Bool) → (not a || b) ≡ true → a ≡ true → b ≡ true
implies_rest true b e h = e
implies_rest false b e h = absurd (clash (cc))

pub not_both : (a b : Bool) → (not a || b) ≡ false → (a ≡ true) × (b ≡ false)
not_both true b e = (refl, e)
not_both false b e = absurd (clash (cc))

pub unless_true : (a : Bool) → (a ≡ true → ⊥) → a ≡ false
unless_true true h = absurd (h refl)
unless_true false h = refl

pub unless_false : (a : Bool) → (a ≡ false → ⊥) → a ≡ true
unless_false true h = refl
unless_false false h = absurd (h refl)

pub same_truth : (a b : Bool) → (a ≡ true → b ≡ true) → (b ≡ true → a ≡ true) → a ≡ b
same_truth true b f g = sym (f refl)
same_truth false true f g = g refl
same_truth false false f g = refl

-- A conjunction whose first test was made: it fails, or the rest decides.
pub both_first-false : (r a b : Bool) → r ≡ a → not r ≡ true → false ≡ (a && b)
both_first-false r a b e h = rw (← e, not-true r h)

pub both_first-true : (r a b o : Bool) → r ≡ a → not r ≡ false → o ≡ b → o ≡ (a && b)
both_first-true r a b o e h q = q ∙ rw (← e, not-false r h)
