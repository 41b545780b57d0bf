-- `types::zeta::zeta_transform` meets its contract. The loop's invariant: the first 2^bits entries are transformed over the
-- bits below n.
-- Assumes nothing.
use native.Mathlib.Omega.{arith}
use Rattle.types.specs.Comparison.{atom_limit}
use Rattle.types.proofs.Invariants.Zeta.{words-room, zeta-start, zeta_turn}
use Rattle.types.proofs.zeta.zeta_transform.Goals as goal

pub loop-n-init : goal.loop-n-init
loop-n-init c =
    zeta-start _ _

pub zeta_bit-requires-clause-size_le_type_limit : goal.zeta_bit-requires-clause-size_le_type_limit
zeta_bit-requires-clause-size_le_type_limit c =
    words-room _ atom_limit c.requires (omega arith)

pub loop-n-preserved : goal.loop-n-preserved
loop-n-preserved c =
    zeta_turn _ _ _ _ c.loop-n.invariant _ (omega arith) c.zeta_bit.ensures
