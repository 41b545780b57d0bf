-- `scripts::machine::Machine::goal` meets its contract: the machine keeps the goal of the last frame.
-- Assumes nothing.
use Rattle.scripts.proofs.Refinement.Frames.{goal-shown}
use Rattle.scripts.proofs.machine.Machine.goal.Goals as goal

pub returns : goal.returns
returns c =
    let m = c.self.inside in
    goal-shown m.frames m.goal m.back m.depth _ c.self.view_is c.requires
