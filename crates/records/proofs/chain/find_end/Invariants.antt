-- `records::chain::find_end` meets its contract. The loop's invariant: the end of what is still to be walked, or where nothing
-- is left the statement last passed, is the chain's.
-- Assumes nothing.
use mathlib.Core.Path.{◌≡◌}
use Rattle.records.specs.Finite.{last_or}
use Rattle.records.specs.Format.{count}
use Rattle.records.specs.Chain.{chain_from, chain_end}
use Rattle.records.proofs.Theorems.Accepted.{Linked}
use Rattle.records.proofs.Theorems.Following.{left}
use Rattle.records.proofs.chain.find_end.Given as goal

abbrev pub invariant-loop-at : goal.invariant-loop-at
invariant-loop-at l =
    Linked l.v 0 l.at × (last_or l.end (chain_from l.v l.at) ≡ chain_end l.v)

abbrev pub decreases-loop-at : goal.decreases-loop-at
decreases-loop-at l =
    left (count l.v) l.at
