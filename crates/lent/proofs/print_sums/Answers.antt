-- A byte more adds to both sums.
use Rattle.std.proofs.Common.{rules, ◌^◌}
use Rattle.lent.proofs.Steps.{sums-more}
use Rattle.lent.proofs.print_sums.Goals as goal

pub loop-byte-preserved : goal.loop-byte-preserved
loop-byte-preserved g c =
    sums-more (2 ^ 64) c.args.buffer.now c.loop-byte.byte-index c.from-low.result c.loop-byte.low c.loop-byte.high
    c.loop-byte-test.true (search rules)
    c.loop-byte.invariant.0 c.loop-byte.invariant.1
