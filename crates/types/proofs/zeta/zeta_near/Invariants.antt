-- `types::zeta::zeta_near` meets its contract. The loop's invariant: the entries below x, a word that has bit n, are
-- joined where they have it, all others are the caller's.
-- Assumes nothing.
use Prim.Native.Nat.{◌-◌}
use Rattle.types.proofs.Invariants.Zeta.{Stepped}
use Rattle.types.proofs.zeta.zeta_near.Given as goal

abbrev pub invariant-loop-x : goal.invariant-loop-x
invariant-loop-x l =
    Stepped l.initial.joins l.n l.joins l.x

abbrev pub decreases-loop-x : goal.decreases-loop-x
decreases-loop-x l =
    l.size - l.x
