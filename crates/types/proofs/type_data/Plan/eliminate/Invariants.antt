-- `types::type_data::Plan::eliminate` meets its contract. The loop's invariant: `done` rounds each removed something, what is
-- alive is that stage, and `left` is its number of types. There are no more such rounds than types.
-- Assumes nothing.
use Prim.Native.Nat.{ℕ, ◌-◌}
use mathlib.Core.Bool.{Bool}
use mathlib.Core.List.{List}
use Rattle.types.specs.Types.{types}
use Rattle.types.specs.Code.Elimination.{Eliminating, AtStage}
use Rattle.types.proofs.Theorems.Survivors.{Removing}
use Rattle.types.proofs.type_data.Plan.eliminate.Given as goal

-- What stands after `done` rounds that each removed something.
pub record Standing (v : List ℕ) (bits : ℕ) (masks held remaining : List ℕ) (alive : List Bool) (left done : ℕ)
    : Type 0 where
  pub state : Eliminating v bits masks held remaining alive
  pub stage : AtStage v done alive left
  pub before : Removing v done

abbrev pub invariant-loop-left : goal.invariant-loop-left
invariant-loop-left l =
    Standing l.self.v.now l.bits l.masks l.held l.remaining l.alive l.left l.done

abbrev pub decreases-loop-left : goal.decreases-loop-left
decreases-loop-left l =
    types l.self.v.now - l.done
