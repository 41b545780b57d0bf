-- `types::zeta::zeta_blocks` meets its contract. The loop's invariant: the entries below `at`, which ends a block of two
-- halves, are joined where they have bit n, all others are the caller's.
-- Assumes nothing.
use Prim.Native.Nat.{◌-◌}
use Rattle.types.proofs.Invariants.Zeta.{Paired}
use Rattle.types.proofs.zeta.zeta_blocks.Given as goal

abbrev pub invariant-loop-at : goal.invariant-loop-at
invariant-loop-at l =
    Paired l.initial.joins l.n l.joins l.at

abbrev pub decreases-loop-at : goal.decreases-loop-at
decreases-loop-at l =
    l.size - l.at
