-- `types::type_data::Plan::statements_hold` meets its contract. The loop's invariant: the statements up to here hold.
-- Assumes nothing.
use native.Mathlib.Omega.{arith}
use mathlib.Core.Bool.{false}
use mathlib.Core.Path.{◌≡◌, sym, ap, ◌∙◌}
use lib.ListN.{length, get_or}
use Rattle.records.specs.Finite.{all_below}
use Rattle.types.specs.Code.Rules.{all_true}
use Rattle.records.proofs.Laws.Below.{all_miss}
use Rattle.records.proofs.Laws.Filling.{all_start, all-holds_turn}
use Rattle.types.proofs.Refinement.TypeData.{few-records}
use Rattle.types.proofs.type_data.Plan.statements_hold.Goals as goal

pub loop-at-init : goal.loop-at-init
loop-at-init c =
    all_start _

pub bounds-values-at : goal.bounds-values-at
bounds-values-at c =
    let p = c.args.self.now.prepared in
    omega (arith, p.stated.within c.loop-at.at-index (omega arith), few-records _ _ _ _ _ _ _ p)

pub returns-then-not-values-at : goal.returns-then-not-values-at
unfolding all_true
returns-then-not-values-at c =
    let a = c.args in
    sym (all_miss (λ j. get_or a.values.now (get_or a.self.now.statements.now j 0) false) (length a.self.now.statements.now)
    c.loop-at.at-index (omega arith) c.if-not-values-at.true)

pub loop-at-preserved : goal.loop-at-preserved
loop-at-preserved c =
    all-holds_turn _ _ _ c.loop-at.invariant c.if-not-values-at.false

pub returns : goal.returns
unfolding all_true
returns c =
    let e : c.loop-at.at-index ≡ length c.args.self.now.statements.now = omega arith in
    c.loop-at.invariant ∙ ap (all_below _) e
