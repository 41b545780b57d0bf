-- Checks in order: what a chain of checks answers, what one turn of checks in turn does, and what passed checks tell.
--   then_assoc, then_pass                      checks one after the other, whichever are taken together; and none after them
--   refusal_same, then_stops                   a refusal's number and place; what a check before a value refuses
--   then_same                                  what comes after a check that passed
--   RefusesAt, require_at, then_at, in_rows_at checks that refuse at one place
--   then_refused, then_fine                    a chain `a then b` where the first check refuses, or passes
--   require_test                               a row whose test was made by a call
--   in_rows-same                               `in_rows` of which each row is the same
--   turn_refused, turn_passed, turns_end       `in_turn` at one turn, and past its end
--   turns                                      these three: what a search for the goals of a loop applies
--   require_passed, then_passed                a row that passed; both checks of a chain that was accepted
--   turn_at, turns_pass, turns_last            each check of a run that passed; all of them; a run with one more at its end
-- Assumes nothing.
use Prim.Native.Nat.{ℕ, zero, suc, ◌+◌, ◌-◌, ◌<◌, ◌≤◌}
use native.Mathlib.Numerals.{add-one}
use native.Mathlib.Omega.{arith}
use native.Mathlib.Decide.{ℕ_discrete}
use mathlib.Core.Path.{◌≡◌, refl, sym, ap, subst, ◌∙◌}
use mathlib.Core.Bool.{Bool, true, false, or-true}
use mathlib.Core.List.{List, [], ◌∷◌}
use lib.Dec.{eqb}
use borrow.Author.Tests.{eq-eqb}
use Rattle.records.specs.Finite.{occurs}
use Rattle.records.specs.Outcome.{Outcome, Check, accepted, refused, pass, ◌then◌, require, in_rows, in_turn}
use Rattle.records.proofs.Laws.Tests.{clash}

pub then_assoc : {A B C : Type 0} (a : Outcome A) (b : Outcome B) (c : Outcome C) → ((a then b) then c) ≡ (a then b then c)
then_assoc (accepted x) b c = refl
then_assoc (refused n p) b c = refl

-- A refusal is known by its number and place.
pub refusal_same : {A : Type 0} (m q n p : ℕ) → ◌≡◌ {A = Outcome A} (refused m q) (refused n p) → (m ≡ n) × (q ≡ p)
refusal_same m q n p e =
    let number : m ≡ n = cc in
    let place : q ≡ p = cc in
    (number, place)

-- What is refused where only a value comes after a check, the check refuses.
pub then_stops : {A : Type 0} (c : Check) (x : A) (n p : ℕ) → (c then accepted x) ≡ refused n p → c ≡ refused n p
then_stops (accepted u) x n p e = absurd (clash (cc))
then_stops (refused m q) x n p e = let same = refusal_same m q n p e in rw (same.0, same.1)

-- what comes after a check matters where that passed
pub then_same : {B : Type 0} (a : Check) (b c : Outcome B) → (a ≡ pass → b ≡ c) → (a then b) ≡ (a then c)
then_same (accepted u) b c h = h refl
then_same (refused n p) b c h = refl

-- A check refuses at a place, or not at all.
abbrev pub RefusesAt : ℕ → Check → Type 0
RefusesAt i check = (n p : ℕ) → check ≡ refused n p → p ≡ i

pub require_at : (b : Bool) (k i : ℕ) → RefusesAt i (require b k i)
require_at true k i n p e = absurd (clash (cc))
require_at false k i n p e = sym (refusal_same k i n p e).1

pub then_at : (i : ℕ) (a b : Check) → RefusesAt i a → RefusesAt i b → RefusesAt i (a then b)
then_at i (accepted u) b f g n p e = g n p e
then_at i (refused m q) b f g n p e = f n p e

pub in_rows_at : (i : ℕ) (check : ℕ → Check) → ((n : ℕ) → RefusesAt i (check n)) → (rows : List ℕ)
    → RefusesAt i (in_rows check rows)
in_rows_at i check each [] n p e = absurd (clash (cc))
in_rows_at i check each (m ∷ rows) n p e =
    then_at i (check m) (in_rows check rows) (each m) (in_rows_at i check each rows) n p e

pub in_rows-same : (f g : ℕ → Check) (rows : List ℕ) → ((n : ℕ) → occurs n rows ≡ true → f n ≡ g n)
    → in_rows f rows ≡ in_rows g rows
unfolding occurs
in_rows-same f g [] h = refl
in_rows-same f g (n ∷ rows) h =
    rw (h n (rw (eq-eqb n n refl)), in_rows-same f g rows (λ m o. h m (rw o (or-true (eqb m n)))))

pub then_pass : (a : Check) → (a then pass) ≡ a
then_pass (accepted u) = refl
then_pass (refused n p) = refl

pub then_refused : (o a b : Check) (n p : ℕ) → o ≡ a → o ≡ refused n p → o ≡ (a then b)
then_refused o a b n p e r = r ∙ rw (← e, r)

pub then_fine : {B : Type 0} (c a : Check) (b o : Outcome B) → c ≡ a → c ≡ pass → o ≡ b → o ≡ (a then b)
then_fine c a b o e r q = q ∙ rw (← e, r)

pub require_test : (o : Check) (t x : Bool) (n p : ℕ) → o ≡ require t n p → t ≡ x → o ≡ require x n p
require_test o t x n p h e = h ∙ rw e

module _ (check : ℕ → Check) (i n : ℕ) where
  turn : i < n → in_turn check i (n - i) ≡ (check i then in_turn check (i + 1) (n - (i + 1)))
  unfolding in_turn
  turn h = let e : n - i ≡ suc (n - (i + 1)) = omega arith in rw (e, add-one)

  pub turn_refused : (o : Check) (a b : ℕ) → i < n → o ≡ in_turn check i (n - i) → refused a b ≡ check i → refused a b ≡ o
  turn_refused o a b h e r = rw (e, turn h, ← r)

  pub turn_passed : (o : Check) → i < n → o ≡ in_turn check i (n - i) → pass ≡ check i → o ≡ in_turn check (i + 1) (n - (i + 1))
  turn_passed o h e r = e ∙ turn h ∙ rw (← r)

  pub turns_end : (o : Check) → n ≤ i → o ≡ in_turn check i (n - i) → pass ≡ o
  unfolding in_turn
  turns_end o h e = let none : n - i ≡ 0 = omega arith in sym (e ∙ rw none)

pub ruleset turns = (turn_refused, turn_passed, turns_end)

pub require_passed : (b : Bool) (n p : ℕ) → require b n p ≡ pass → b ≡ true
require_passed true n p e = refl
require_passed false n p e = absurd (clash (cc))

pub then_passed : {B : Type 0} (a : Check) (b : Outcome B) (x : B) → (a then b) ≡ accepted x → (a ≡ pass) × (b ≡ accepted x)
then_passed (accepted u) b x e = (refl, e)
then_passed (refused n p) b x e = absurd (clash (cc))

pub turn_at : (check : ℕ → Check) (n i : ℕ) → in_turn check i n ≡ pass → (k : ℕ) → i ≤ k → k < i + n → check k ≡ pass
unfolding in_turn
turn_at check zero i e k l h = absurd (omega arith)
turn_at check (suc n) i e k l h =
    at (ℕ_discrete i k) (turn_at check n (suc i) (then_passed (check i) (in_turn check (suc i) n) tt e).1 k)
  where
    at : Dec (i ≡ k) → (suc i ≤ k → k < suc i + n → check k ≡ pass) → check k ≡ pass
    at (yes q) r = subst (λ (j : ℕ). check j ≡ pass) q (then_passed (check i) (in_turn check (suc i) n) tt e).0
    at (no q) r = r (omega arith) (omega arith)

pub turns_pass : (check : ℕ → Check) (n i : ℕ) → ((k : ℕ) → i ≤ k → k < i + n → check k ≡ pass) → in_turn check i n ≡ pass
unfolding in_turn
turns_pass check zero i each = refl
turns_pass check (suc n) i each =
    rw (each i (omega arith) (omega arith)) (turns_pass check n (suc i) (λ k l h. each k (omega arith) (omega arith)))

pub turns_last : (check : ℕ → Check) (n i : ℕ) → in_turn check i (suc n) ≡ (in_turn check i n then check (i + n))
unfolding in_turn
turns_last check zero i = let same : i + 0 ≡ i = omega arith in rw same (then_pass (check i))
turns_last check (suc n) i =
    let same : suc i + n ≡ i + suc n = omega arith in
    ap (λ (o : Check). check i then o) (turns_last check n (suc i) ∙ rw same)
    ∙ sym (then_assoc (check i) (in_turn check (suc i) n) (check (i + suc n)))
