-- `taxonomy::table::Order::is_between` meets its contract. The search over the range is that over the numbers below its end.
-- Assumes nothing.
use mathlib.Core.Bool.{◌&&◌}
use mathlib.Core.Path.{refl, ◌∙◌}
use native.Mathlib.Omega.{arith}
use Rattle.std.proofs.Common.{rules, tests}
use Rattle.std.proofs.lemmas.Iterator.{YieldsList-from_range}
use Rattle.std.proofs.lemmas.Iterator.Search.{any_from_yields_List}
use Rattle.taxonomy.specs.Code.Order.{strictly_above}
use Rattle.taxonomy.proofs.Refinement.Table.{any-range}
use Rattle.taxonomy.proofs.table.Order.is_between.Goals as goal

pub returns : goal.returns
returns c =
    any_from_yields_List
    (λ m. strictly_above c.args.self.now c.args.i m && strictly_above c.args.self.now m c.args.j) _ _ c.any.result
    c.any.ensures.ran (YieldsList-from_range 0 _ c.args.self.now.names.count refl (omega arith))
    (λ x b q k. search (rules, tests))
    ∙ any-range _ c.args.self.now.names.count
