-- What a call answers, and how the rows of the table follow one another.
use Rattle.std.specs.Prelude.{ℕ, zero, suc, Bool, true, false, List, [], ◌∷◌}

-- "Every refusal gives number and place": a refusal's number and place, or acceptance with what the call answers.
pub data Outcome (A : Type 0) : Type 0 where
  accepted : A → Outcome A
  refused : ℕ → ℕ → Outcome A

-- A check answers nothing but that it passed.
abbrev pub Check : Type 0
Check = Outcome (Unit {0})

abbrev pub pass : Check
pass = accepted tt

infixr 20 ◌then◌
-- "The first that applies in table order is given": what comes after a refusal is not looked at.
abbrev pub ◌then◌ : {A B : Type 0} → Outcome A → Outcome B → Outcome B
◌then◌ (accepted a) b = b
◌then◌ (refused n p) b = refused n p

-- A row of the table: refused with its number and place unless the input is fit.
abbrev pub require : Bool → ℕ → ℕ → Check
require true n p = pass
require false n p = refused n p

-- Rows by their numbers, in "table order".
abbrev pub in_rows : (ℕ → Check) → List ℕ → Check
in_rows check [] = pass
in_rows check (n ∷ rows) = check n then in_rows check rows

-- "in turn": the check at i, i + 1, .., n of them.
unfoldable pub in_turn : (ℕ → Check) → ℕ → ℕ → Check
in_turn check i zero = pass
in_turn check i (suc n) = check i then in_turn check (suc i) n
