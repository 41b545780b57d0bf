-- `demands::add_term` meets its contract: the answer, and the bytes, are those of the crate below.
-- Assumes nothing.
use Rattle.writer.specs.Additions.{term}
use Rattle.demands.proofs.Theorems.Returns.{addition_returns}
use Rattle.demands.proofs.add_term.Goals as goal

pub returns-clause-addition_returns : goal.returns-clause-addition_returns
returns-clause-addition_returns c =
    let a = c.args in
    let e = c.add_term.ensures in
    addition_returns a.buffer.now a.used (term a.kind a.a a.b) _ c.add_term.result e.result_value e.buffer_after
