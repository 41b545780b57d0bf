-- `types::eliminate::enter_words` meets its contract. The loop's invariant: `joins` holds the words of the fillers at the
-- listed types that the loop is past.
-- Assumes nothing.
use native.Mathlib.Omega.{arith}
use Rattle.std.proofs.lemmas.Grind.{common_steps}
use Rattle.types.proofs.Invariants.Elimination.{enter_start, enter_turn}
use Rattle.types.proofs.eliminate.enter_words.Goals as goal

pub loop-t-init : goal.loop-t-init
loop-t-init c =
    enter_start c.args.filling.now c.args.remaining.now _ _ (λ x h. grind (arith, common_steps))

pub loop-t-preserved : goal.loop-t-preserved
loop-t-preserved c =
    let a = c.args in
    let i = c.loop-t.t-index in
    (enter_turn a.filling.now a.remaining.now _ _ i c.loop-t.invariant
    (omega (arith, c.requires.by_index_2 i c.loop-t-test.true))).0
