-- `demands::find_record` meets its contract: the answer is that of the crate below.
-- Assumes nothing.
use Rattle.demands.proofs.Theorems.Returns.{offset_returns}
use Rattle.demands.proofs.find_record.Goals as goal

pub returns-clause-offset_returns : goal.returns-clause-offset_returns
returns-clause-offset_returns c =
    let a = c.args in
    offset_returns a.v.now a.number c.find_record.result c.find_record.ensures
