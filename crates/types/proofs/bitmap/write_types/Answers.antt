-- `types::bitmap::write_types` meets its contract. The loop's invariant: the first `n` bytes of the bitmap stand over what
-- was lent.
-- Assumes nothing.
use native.Mathlib.Omega.{arith}
use Rattle.types.specs.Bitmap.{byte_of}
use Rattle.records.proofs.Laws.Filling.{over-start, over_turn}
use Rattle.types.proofs.bitmap.write_types.Goals as goal

pub loop-n-init : goal.loop-n-init
loop-n-init c =
    over-start (byte_of c.args.alive.now) c.args.lent.now

pub loop-n-preserved : goal.loop-n-preserved
loop-n-preserved c =
    let a = c.args in
    over_turn (byte_of a.alive.now) c.loop-n.n a.lent.now c.loop-n.lent c.byte_of.result (omega arith)
    c.loop-n.invariant c.byte_of.ensures
