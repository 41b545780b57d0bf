-- `scripts::machine::Machine::open` meets its contract: a frame of one literal or two stands above those that are open.
-- Assumes nothing.
use Prim.Native.Nat.{ℕ, ◌<◌}
use native.Mathlib.Omega.{arith}
use native.Mathlib.Numerals.{add-one}
use mathlib.Core.Path.{◌≡◌, ap, subst, ◌∙◌}
use lib.ListN.{length}
use mathlib.Core.List.{[], ◌∷◌}
use Rattle.scripts.specs.Calculus.{frame_limit}
use Rattle.scripts.specs.Run.{Frames}
use Rattle.scripts.specs.Code.Machine.{opened_at, frames_from}
use Rattle.scripts.specs.declared.machine.Frame.{Frame}
use Rattle.scripts.specs.declared.machine.Machine.TheInside.{Inside}
use Rattle.scripts.proofs.Refinement.Frames.{depth-length, frames_single, frames_pair, backs-set}
use Rattle.scripts.proofs.machine.Machine.open.Goals as goal

-- there is room in the array
within : (m : Inside) {frames : Frames ℕ} → frames_from m.frames m.goal m.back m.depth ≡ frames → length frames < frame_limit
    → m.depth < frame_limit
within m view h = subst (λ (d : ℕ). d < frame_limit) (depth-length m.frames m.goal m.back m.depth _ view) h

pub bounds-self-inside-at : goal.bounds-self-inside-at
bounds-self-inside-at c =
    within c.self.inside c.self.view_is c.requires

pub invariant_of-self : goal.invariant_of-self
invariant_of-self c =
    let m = c.self.inside in
    let p = c.self.invariant in
    let n = m.depth in
    let l = within m c.self.view_is c.requires in
    record {
      deep = omega (arith, l);
      leads = omega (arith, p.leads);
      backs = backs-set m.frames n _ (add-one n) (omega (arith, l)) _ (p.backs n) p.backs;
    }

pub bounds-self-inside-at-in-Some : goal.bounds-self-inside-at-in-Some
bounds-self-inside-at-in-Some c =
    within c.self.inside c.self.view_is c.requires

pub invariant_of-self-in-Some : goal.invariant_of-self-in-Some
invariant_of-self-in-Some c =
    let m = c.self.inside in
    let p = c.self.invariant in
    let n = m.depth in
    let l = within m c.self.view_is c.requires in
    record {
      deep = omega (arith, l);
      leads = omega arith;
      backs = backs-set m.frames n _ (add-one n) (omega (arith, l)) _ (omega (arith, p.leads)) p.backs;
    }

pub returns-in-None : goal.returns-in-None
returns-in-None c =
    let m = c.self.inside in
    let g = c.args.next.goal in
    let n = m.depth in
    let l = within m c.self.view_is c.requires in
    let x : Frame
    = record { below = m.goal; other = (opened_at m.frames n).other; back = (opened_at m.frames n).back } in
    rw c.in-None.is
    (frames_single m.frames n _ (add-one n) (omega (arith, l)) x m.back g c.self.invariant.leads
    ∙ ap (λ (fs : Frames ℕ). (g ∷ []) ∷ fs) c.self.view_is)

pub returns-in-Some : goal.returns-in-Some
returns-in-Some c =
    let m = c.self.inside in
    let g = c.args.next.goal in
    let o = c.in-Some.other in
    let n = m.depth in
    let l = within m c.self.view_is c.requires in
    rw c.in-Some.is
    (frames_pair m.frames n _ (add-one n) (omega (arith, l)) (record { below = m.goal; other = o; back = m.back }) g
    ∙ ap (λ (fs : Frames ℕ). (g ∷ o ∷ []) ∷ fs) c.self.view_is)
