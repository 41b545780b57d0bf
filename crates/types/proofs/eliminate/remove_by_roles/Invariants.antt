-- `types::eliminate::remove_by_roles` meets its contract. The loop's invariant: what is left is what the roles that the loop
-- is past serve, and the list has it.
-- Assumes nothing.
use Rattle.types.specs.Code.Elimination.{Enumerates}
use Rattle.types.proofs.Refinement.Rounds.{AfterRoles}
use Rattle.types.proofs.eliminate.remove_by_roles.Given as goal

abbrev pub invariant-loop-mask : goal.invariant-loop-mask
invariant-loop-mask l =
    AfterRoles l.v l.initial.alive l.mask-index l.alive × Enumerates l.remaining l.alive
