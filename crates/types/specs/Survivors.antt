-- Type elimination: rounds, and the survivors.
use Rattle.std.specs.Prelude.{ℕ, zero, suc, ◌<◌, ◌≡◌, Bool, true, not, ◌&&◌, ◌||◌, List}
use Rattle.records.specs.Format.{count}
use Rattle.records.specs.Finite.{any_below, all_below, least, table, has}
use Rattle.records.specs.Chain.{in_force}
use Rattle.types.specs.Types.{types, truth, served}

-- Every statement in force holds at t.
unfoldable pub satisfies : List ℕ → ℕ → Bool
satisfies v t = all_below (λ i. not (in_force v i) || truth v t i) (count v)

-- "One round removes together all types not served by the set as the round began."
abbrev pub round : List ℕ → List Bool → List Bool
round v S = table (types v) (λ t. has S t && served v S t)

-- The round removes something.
abbrev pub removes : List ℕ → List Bool → Bool
removes v S = any_below (λ t. has S t && not (served v S t)) (types v)

-- The set after n rounds: "Begin with the types at which every chained statement holds."
unfoldable pub stage : List ℕ → ℕ → List Bool
stage v zero = table (types v) (satisfies v)
stage v (suc n) = round v (stage v n)

-- "the number .. of rounds that removed something": those before the first that removes nothing; "never over 2^k".
unfoldable pub rounds : List ℕ → ℕ
rounds v = least (λ n. not (removes v (stage v n))) (types v)

-- Survivors, as the paper calls what the rounds leave.
unfoldable pub survivors : List ℕ → List Bool
survivors v = stage v (rounds v)

-- A "set of types at which all statements hold and which serves each of its members"
pub record Serving (v : List ℕ) (S : List Bool) : Type 0 where
  pub small : (t : ℕ) → has S t ≡ true → t < types v
  pub fit : (t : ℕ) → has S t ≡ true → satisfies v t ≡ true
  pub serves : (t : ℕ) → has S t ≡ true → served v S t ≡ true

-- "the largest set" of that sort: every other lies within it
pub record Largest (v : List ℕ) (S : List Bool) : Type 0 where
  pub serving : Serving v S
  pub holds_all : (R : List Bool) → Serving v R → (t : ℕ) → has R t ≡ true → has S t ≡ true
