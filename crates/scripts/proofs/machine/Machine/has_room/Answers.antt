-- `scripts::machine::Machine::has_room` meets its contract: it asks how many frames are open.
-- Assumes nothing.
use Rattle.scripts.proofs.Refinement.Frames.{depth-length}
use Rattle.scripts.proofs.machine.Machine.has_room.Goals as goal

pub returns : goal.returns
returns c =
    let m = c.self.inside in
    rw (depth-length m.frames m.goal m.back m.depth _ c.self.view_is)
