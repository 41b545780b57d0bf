-- `scripts::run::Chain::run_steps` meets its contract. The loop's invariant: the steps made and those from `at` on are the run
-- from the frames that the start opened. The walk ends since the links of a passed form rise.
-- Assumes nothing.
use Prim.Native.Nat.{ℕ}
use native.Mathlib.Omega.{arith}
use mathlib.Core.Path.{◌≡◌, refl, ap, ◌∙◌}
use mathlib.Core.List.{List, [], ◌∷◌}
use Rattle.std.proofs.lemmas.Grind.{common_steps}
use Rattle.records.specs.Outcome.{accepted, refused, ◌then◌, require}
use Rattle.records.specs.Finite.{is_nil}
use Rattle.records.specs.Refusals.{answered, number_of}
use Rattle.scripts.specs.Format.{entry_at}
use Rattle.scripts.specs.Run.{Frames}
use Rattle.scripts.specs.Code.Numbered.{start_numbers}
use Rattle.scripts.specs.Code.Tested.{run_after, start_outcome}
use Rattle.scripts.specs.Code.Ready.{IsStep}
use Rattle.scripts.specs.declared.entry.Entry.{Entry}
use Rattle.scripts.proofs.Theorems.Form.{keeps_form}
use Rattle.scripts.proofs.Refinement.Starting.{start-listed, start-frames}
use Rattle.scripts.proofs.Invariants.Walk.{standing, walk_start, walk_next, walk_refused, walk_done, walk_falls}
use Rattle.scripts.proofs.run.Chain.run_steps.Goals as goal

-- the run from the frames that the start opened is the outcome of the start
begins : (v s : List ℕ) (first : ℕ) (e : Entry) (frames : Frames ℕ) → e ≡ entry_at s first → (entry_at s first).w0 ≡ 3
    → frames ≡ start_numbers v s e.w1 ∷ [] → run_after v s frames first ≡ start_outcome v s first
begins v s first e frames read kind opened =
    ap (λ (fs : Frames ℕ). run_after v s fs first)
    (opened ∙ start-frames v s first e read (ap (λ (x : Entry). x.w0) read ∙ kind))

pub begin-machine-requires : goal.begin-machine-requires
begin-machine-requires c =
    let m = c.args.self.now in
    let p = c.requires in
    let read = c.read_at-start.ensures in
    start-listed m.vocabulary.bytes.now m.script.now (keeps_form _ _ m.form) _ _ read p.step
    (ap (λ (x : Entry). x.w0) read ∙ p.kind)

pub loop-at-init : goal.loop-at-init
loop-at-init c =
    let m = c.args.self.now in
    let p = c.requires in
    walk_start m.vocabulary.bytes.now m.script.now (keeps_form _ _ m.form) _ _ _ _ p.step refl
    (ap (λ (x : Entry). x.w7) c.read_at-start.ensures)

pub returns-in_err-make_step : goal.returns-in_err-make_step
returns-in_err-make_step c =
    let m = c.args.self.now in
    let here : IsStep m.script.now c.loop-at.at
    = standing m.script.now _ c.loop-at.invariant.reached c.loop-at-test.true in
    let r = c.in_err-make_step.field-0.0 in
    let answer : answered c.from_residual.result ≡ refused (number_of r.row) r.place = grind (arith, common_steps) in
    let told = c.make_step.ensures.rows in
    let wrong : refused (number_of r.row) r.place ≡ answered c.make_step.result = grind (arith, common_steps) in
    answer
    ∙ walk_refused m.vocabulary.bytes.now m.script.now (keeps_form _ _ m.form) _ _ _ _ _ c.loop-at.invariant _ _
    here (wrong ∙ told)
    ∙ begins _ _ _ _ _ c.read_at-start.ensures c.requires.kind
    (c.begin-machine.ensures m.vocabulary.bytes.now m.script.now m.asked)

pub loop-at-smaller : goal.loop-at-smaller
loop-at-smaller c =
    let m = c.args.self.now in
    let here : IsStep m.script.now c.loop-at.at
    = standing m.script.now _ c.loop-at.invariant.reached c.loop-at-test.true in
    walk_falls m.vocabulary.bytes.now m.script.now (keeps_form _ _ m.form) _ _ here
    (ap (λ (x : Entry). x.w7) c.read_at.ensures)

pub loop-at-preserved : goal.loop-at-preserved
loop-at-preserved c =
    let m = c.args.self.now in
    let here : IsStep m.script.now c.loop-at.at
    = standing m.script.now _ c.loop-at.invariant.reached c.loop-at-test.true in
    walk_next m.vocabulary.bytes.now m.script.now (keeps_form _ _ m.form) _ _ _ _ _ c.loop-at.invariant _ _ _ here
    c.in_ok-make_step.ensures.rows refl (c.in_ok-make_step.ensures.stepped refl)
    (ap (λ (x : Entry). x.w7) c.read_at.ensures)

pub returns-in_err-require : goal.returns-in_err-require
returns-in_err-require c =
    let m = c.args.self.now in
    let last = c.loop-at.last in
    let steps = c.loop-at.steps in
    let answer : answered c.from_residual-in_err-require.result
    ≡ (require (is_nil c.loop-at.machine) 24 last then accepted steps)
    = grind (arith, common_steps) in
    answer
    ∙ walk_done m.vocabulary.bytes.now m.script.now _ _ _ _ _ c.loop-at.invariant c.loop-at-test.false
    ∙ begins _ _ _ _ _ c.read_at-start.ensures c.requires.kind
    (c.begin-machine.ensures m.vocabulary.bytes.now m.script.now m.asked)

pub returns : goal.returns
returns c =
    let m = c.args.self.now in
    let last = c.loop-at.last in
    let steps = c.loop-at.steps in
    let answer : accepted steps ≡ (require (is_nil c.loop-at.machine) 24 last then accepted steps)
    = grind (arith, common_steps) in
    answer
    ∙ walk_done m.vocabulary.bytes.now m.script.now _ _ _ _ _ c.loop-at.invariant c.loop-at-test.false
    ∙ begins _ _ _ _ _ c.read_at-start.ensures c.requires.kind
    (c.begin-machine.ensures m.vocabulary.bytes.now m.script.now m.asked)
