-- `types::type_data::Plan::statements_hold` meets its contract. The loop's invariant: the statements up to here hold.
-- Assumes nothing.
use mathlib.Core.Bool.{true, false}
use mathlib.Core.Path.{◌≡◌}
use lib.ListN.{get_or}
use Rattle.records.specs.Finite.{all_below}
use Rattle.types.proofs.type_data.Plan.statements_hold.Given as goal

abbrev pub invariant-loop-at : goal.invariant-loop-at
invariant-loop-at l =
    true ≡ all_below (λ j. get_or l.values (get_or l.self.statements.now j 0) false) l.at-index
