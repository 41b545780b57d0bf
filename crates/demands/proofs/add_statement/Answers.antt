-- `demands::add_statement` meets its contract: the answer, and the bytes, are those of the crate below.
-- Assumes nothing.
use Rattle.writer.specs.Additions as additions
use Rattle.demands.proofs.Theorems.Returns.{addition_returns}
use Rattle.demands.proofs.add_statement.Goals as goal

pub returns-clause-addition_returns : goal.returns-clause-addition_returns
returns-clause-addition_returns c =
    let a = c.args in
    let e = c.add_statement.ensures in
    let x = additions.statement a.a a.b in
    addition_returns a.buffer.now a.used x _ c.add_statement.result e.result_value e.buffer_after
