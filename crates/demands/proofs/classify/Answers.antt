-- `demands::classify` meets its contract: the answer, and the bytes, are those of the crate below.
-- Assumes nothing.
use Rattle.demands.proofs.Theorems.Returns.{classification_returns}
use Rattle.demands.proofs.classify.Goals as goal

pub returns-clause-classification_returns : goal.returns-clause-classification_returns
returns-clause-classification_returns c =
    let a = c.args in
    let e = c.classify.ensures in
    classification_returns a.v.now a.lent.now _ a.room.now _ c.classify.result e.result_value e.lent_after e.room_after
