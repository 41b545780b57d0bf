-- `types::zeta::zeta_near` meets its contract. The loop's invariant: the entries below x, a word that has bit n, are
-- joined where they have it, all others are the caller's.
-- Assumes nothing.
use native.Mathlib.Omega.{arith}
use Rattle.types.proofs.Invariants.Zeta.{step_start, step_back, step_less, step_turn}
use Rattle.types.proofs.zeta.zeta_near.Goals as goal

pub loop-x-init : goal.loop-x-init
loop-x-init c =
    step_start _ _ (omega arith)

pub overflow_sub-joins : goal.overflow_sub-joins
overflow_sub-joins c =
    step_back _ _ (omega arith) _ _ c.loop-x.invariant

pub loop-x-smaller : goal.loop-x-smaller
loop-x-smaller c =
    step_less _ _ (omega arith) _ _ c.loop-x.invariant _ c.loop-x-test.true

pub loop-x-preserved : goal.loop-x-preserved
loop-x-preserved c =
    step_turn _ _ (omega arith) _ _ c.loop-x.invariant (omega arith)
