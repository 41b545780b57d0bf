-- `types::zeta::join_block` meets its contract. The loop's invariant: the entries from `at + half` up to `x + half` are
-- joined, all others are the caller's.
-- Assumes nothing.
use Prim.Native.Nat.{◌+◌}
use Rattle.types.specs.Code.Elimination.{between, Joined}
use Rattle.types.proofs.zeta.join_block.Given as goal

abbrev pub invariant-loop-x : goal.invariant-loop-x
invariant-loop-x l =
    Joined (between (l.at + l.half) (l.x + l.half)) l.half l.initial.joins l.joins
