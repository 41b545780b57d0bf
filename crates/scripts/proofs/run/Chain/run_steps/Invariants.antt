-- The loop of `scripts::run::Chain::run_steps`: the steps made and those from `at` on are the run from the frames that the start
-- opened. The walk ends since the links of a passed form rise.
use Rattle.records.proofs.Theorems.Following.{left}
use Rattle.scripts.specs.Format.{entries}
use Rattle.scripts.specs.Code.Tested.{run_after}
use Rattle.scripts.proofs.Invariants.Walk.{Walk}
use Rattle.scripts.proofs.run.Chain.run_steps.Given as goal

abbrev pub invariant-loop-at : goal.invariant-loop-at
invariant-loop-at l =
    let v = l.self.vocabulary.bytes.now in
    let s = l.self.script.now in
    Walk v s (run_after v s l.initial.machine l.initial.last) l.machine l.last l.at l.steps

abbrev pub decreases-loop-at : goal.decreases-loop-at
decreases-loop-at l = left (entries l.self.script.now) l.at
