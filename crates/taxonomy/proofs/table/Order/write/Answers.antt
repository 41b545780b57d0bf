-- `taxonomy::table::Order::write` meets its contract. Each byte written is the next of the table.
-- Assumes nothing.
use native.Mathlib.Omega.{arith}
use Rattle.records.proofs.Laws.Filling.{over-start, over_turn}
use Rattle.taxonomy.proofs.table.Order.write.Goals as goal

pub loop-e-init : goal.loop-e-init
loop-e-init c = over-start _ c.args.lent.now

pub loop-e-preserved : goal.loop-e-preserved
loop-e-preserved c =
    let l = c.loop-e in
    over_turn _ l.e c.args.lent.now l.lent c.byte_at.result (omega (arith, c.requires)) l.invariant c.byte_at.ensures
