-- `types::eliminate::remove_unmet` meets its contract. The loop's invariant: the list has the types that are left; those before
-- `j` are met, and only types that are not met were removed.
-- Assumes nothing.
use Prim.Native.Nat.{◌-◌}
use lib.ListN.{length}
use Rattle.types.specs.Code.Elimination.{met_at}
use Rattle.types.proofs.Invariants.Elimination.{RemovedBelow}
use Rattle.types.proofs.eliminate.remove_unmet.Given as goal

abbrev pub invariant-loop-j : goal.invariant-loop-j
invariant-loop-j l =
    RemovedBelow (met_at l.joins l.mask l.held) l.initial.alive l.remaining l.alive l.j

abbrev pub decreases-loop-j : goal.decreases-loop-j
decreases-loop-j l =
    length l.remaining - l.j
