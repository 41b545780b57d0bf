-- `scripts::index::Index::find_slot` meets its contract. The loop's invariant: the search has come to the slot, over records of
-- other codes, and `rest` is what is left of the code. It ends since links lead to later records.
-- Assumes nothing.
use Prim.Native.Nat.{ℕ, suc, ◌/◌}
use native.Mathlib.Omega.{arith}
use mathlib.Core.Path.{refl, sym, ap, ◌∙◌}
use Rattle.records.proofs.Laws.Bits.{halved}
use Rattle.scripts.proofs.Laws.SearchTree.{came-start, came-next, came-few, came-within}
use Rattle.scripts.proofs.index.Index.find_slot.Goals as goal

pub loop-slot-init : goal.loop-slot-init
loop-slot-init c =
    record { steps = 0; came = came-start _ _ _; left = omega arith }

pub passes-requires-clause-slot_in_bounds : goal.passes-requires-clause-slot_in_bounds
passes-requires-clause-slot_in_bounds c =
    let r = c.requires in
    let i = c.loop-slot.invariant in
    came-within _ _ _ _ i.steps r.tree r.function_limit_in_bounds i.came

pub loop-slot-preserved : goal.loop-slot-preserved
loop-slot-preserved c =
    let l = c.loop-slot in
    let i = l.invariant in
    record {
      steps = suc i.steps;
      came = came-next _ _ _ l.slot i.steps _ l.rest i.came (sym c.passes.ensures ∙ c.loop-slot-test.true) i.left refl;
      left = ap (λ (x : ℕ). x / 2) i.left ∙ halved c.args.code i.steps;
    }

pub returns : goal.returns
returns c =
    let r = c.requires in
    let i = c.loop-slot.invariant in
    record {
      found = record {
        steps = i.steps;
        few = came-few _ _ r.tree _ _ i.steps i.came;
        came = i.came;
        ended = sym c.passes.ensures ∙ c.loop-slot-test.false;
      };
      within = came-within _ _ _ _ i.steps r.tree r.function_limit_in_bounds i.came;
    }
