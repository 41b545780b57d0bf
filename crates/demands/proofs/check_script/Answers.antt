-- `demands::check_script` meets its contract: the answer is that of the crate below.
-- Assumes nothing.
use Rattle.demands.proofs.Theorems.Returns.{script_returns}
use Rattle.demands.proofs.check_script.Goals as goal

pub returns-clause-script_returns : goal.returns-clause-script_returns
returns-clause-script_returns c =
    let a = c.args in
    script_returns a.v.now a.s.now c.check_script.result c.check_script.ensures
