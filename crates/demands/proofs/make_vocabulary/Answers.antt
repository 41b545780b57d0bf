-- `demands::make_vocabulary` meets its contract: the answer, and the bytes, are those of the crate below.
-- Assumes nothing.
use Rattle.demands.proofs.Theorems.Returns.{making_returns}
use Rattle.demands.proofs.make_vocabulary.Goals as goal

pub returns-clause-making_returns : goal.returns-clause-making_returns
returns-clause-making_returns c =
    let a = c.args in
    let e = c.make_vocabulary.ensures in
    making_returns a.buffer.now a.roles _ c.make_vocabulary.result e.result_value e.buffer_after
