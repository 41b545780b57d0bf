-- `demands::record` meets its contract: the part is that of the crate below.
-- Assumes nothing.
use Rattle.demands.proofs.Theorems.Returns.{record_returns}
use Rattle.demands.proofs.record.Goals as goal

pub returns-clause-record_returns : goal.returns-clause-record_returns
returns-clause-record_returns c =
    let a = c.args in
    record_returns a.v.now a.number _ c.record.ensures.bytes
