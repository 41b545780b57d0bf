-- `scripts::machine::Machine::goal_below` meets its contract: a frame below the last, and its goal; or no such frame.
-- Assumes nothing.
use Prim.Native.Nat.{ℕ}
use native.Mathlib.Omega.{arith}
use native.Mathlib.Numerals.{add-one}
use mathlib.Core.Path.{ap, ◌∙◌}
use Rattle.std.specs.Prelude.{Some}
use Rattle.scripts.specs.Code.Machine.{opened_at}
use Rattle.scripts.proofs.Refinement.Frames.{below-shown, below-none}
use Rattle.scripts.proofs.machine.Machine.goal_below.Goals as goal

pub returns-then-above-self : goal.returns-then-above-self
returns-then-above-self c =
    let m = c.self.inside in
    let f = c.args.frame in
    ap (λ (above : ℕ). Some (opened_at m.frames above).below) (add-one f)
    ∙ below-shown m.frames m.goal m.back m.depth _ c.self.view_is f (omega (arith, c.if-above-self.true))

pub returns : goal.returns
returns c =
    let m = c.self.inside in
    below-none m.frames m.goal m.back m.depth _ c.self.view_is c.args.frame (omega (arith, c.if-above-self.false))
