-- `scripts::machine::Machine::is_closed` meets its contract: it asks how many frames are open.
-- Assumes nothing.
use mathlib.Core.Path.{sym}
use Rattle.scripts.proofs.Refinement.Frames.{nil_frames, depth-length}
use Rattle.scripts.proofs.machine.Machine.is_closed.Goals as goal

pub returns : goal.returns
returns c =
    let m = c.self.inside in
    nil_frames _ m.depth (sym (depth-length m.frames m.goal m.back m.depth _ c.self.view_is))
