-- `judge::hold` meets its contract: the statement is proved.
-- Assumes nothing.
use Rattle.judge.proofs.Unpacked.{taken_apart}
use Rattle.judge.proofs.hold.Goals as goal

pub returns : goal.returns
returns c = taken_apart
