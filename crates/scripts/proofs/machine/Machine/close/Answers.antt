-- `scripts::machine::Machine::close` meets its contract: the goal is closed. Up to the frame that `back` leads to, none has
-- another open literal.
-- Assumes nothing.
use Prim.Native.Nat.{◌-◌}
use native.Mathlib.Omega.{arith}
use mathlib.Core.Path.{ap, ◌∙◌}
use Rattle.scripts.specs.Run.{close}
use Rattle.scripts.proofs.Refinement.Frames.{close-all, close-back}
use Rattle.scripts.proofs.machine.Machine.close.Goals as goal

pub returns-then-self-gt0 : goal.returns-then-self-gt0
returns-then-self-gt0 c =
    let m = c.self.inside in
    let p = c.self.invariant in
    close-back m.frames p.backs (m.back - 1) m.goal m.back m.depth (omega (arith, c.if-self-gt0.true)) p.leads
    ∙ ap close c.self.view_is

pub returns-else-self-gt0 : goal.returns-else-self-gt0
returns-else-self-gt0 c =
    let m = c.self.inside in
    close-all m.frames m.goal m.back m.depth m.goal m.back (omega (arith, c.if-self-gt0.false)) ∙ ap close c.self.view_is
