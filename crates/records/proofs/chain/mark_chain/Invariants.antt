-- `records::chain::mark_chain` meets its contract. The loop's invariant: what is marked, and what is still to be walked, is
-- the chain.
-- The walk ends since the chain of an accepted vocabulary rises.
-- Assumes nothing.
use Rattle.records.specs.Format.{count}
use Rattle.records.proofs.Theorems.Following.{left}
use Rattle.records.proofs.Refinement.Marks.{Marking}
use Rattle.records.proofs.chain.mark_chain.Given as goal

abbrev pub invariant-loop-at : goal.invariant-loop-at
invariant-loop-at l =
    Marking l.v l.marks l.at

abbrev pub decreases-loop-at : goal.decreases-loop-at
decreases-loop-at l =
    left (count l.v) l.at
