-- `demands::check_vocabulary` meets its contract: the answer is that of the crate below.
-- Assumes nothing.
use Rattle.demands.proofs.Theorems.Returns.{vocabulary_returns}
use Rattle.demands.proofs.check_vocabulary.Goals as goal

pub returns-clause-vocabulary_returns : goal.returns-clause-vocabulary_returns
returns-clause-vocabulary_returns c =
    vocabulary_returns c.args.v.now c.check_vocabulary.result c.check_vocabulary.ensures
