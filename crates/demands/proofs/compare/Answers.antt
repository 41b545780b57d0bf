-- `demands::compare` meets its contract: the answer, and the bytes, are those of the crate below.
-- Assumes nothing.
use Rattle.demands.proofs.Theorems.Returns.{comparison_returns}
use Rattle.demands.proofs.compare.Goals as goal

pub returns-clause-comparison_returns : goal.returns-clause-comparison_returns
returns-clause-comparison_returns c =
    let a = c.args in
    let e = c.compare.ensures in
    comparison_returns a.v.now a.a a.b a.lent.now _ c.compare.result e.result_value e.lent_after
