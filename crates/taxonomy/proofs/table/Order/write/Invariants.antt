-- `taxonomy::table::Order::write` meets its contract. The loop's invariant: the first `e` bytes of the table stand over what
-- was lent.
-- Assumes nothing.
use mathlib.Core.Path.{◌≡◌}
use Rattle.records.proofs.Laws.Filling.{table_over}
use Rattle.taxonomy.specs.Code.Order.{byte_at}
use Rattle.taxonomy.proofs.table.Order.write.Given as goal

abbrev pub invariant-loop-e : goal.invariant-loop-e
invariant-loop-e l = l.lent ≡ table_over (byte_at l.self) l.e l.initial.lent
