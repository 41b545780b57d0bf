-- `types::type_data::Plan::eliminate` meets its contract. The loop's invariant: `done` rounds each removed something, what is
-- alive is that stage, and `left` is its number of types. There are no more such rounds than types.
-- Assumes nothing.
use Prim.Native.Nat.{◌+◌, ◌≤◌}
use native.Mathlib.Omega.{arith}
use mathlib.Core.Path.{◌∙◌}
use Rattle.types.specs.Types.{types}
use Rattle.records.proofs.Laws.Sets.{members-same}
use Rattle.types.proofs.Refinement.Rounds.{stage-ends, rests_survivors, removing_on, rounds-left}
use Rattle.types.proofs.Refinement.TypeData.{prepared_size}
use Rattle.types.proofs.Theorems.Survivors.{types-bound}
use Rattle.types.proofs.type_data.Plan.eliminate.Goals as goal

pub list_alive-requires-clause-size_le_type_limit : goal.list_alive-requires-clause-size_le_type_limit
list_alive-requires-clause-size_le_type_limit c =
    let n = prepared_size _ _ _ _ _ _ _ c.args.self.now.prepared in omega (arith, n.0, n.1)

pub list_alive-requires-clause-by_index : goal.list_alive-requires-clause-by_index
list_alive-requires-clause-by_index c =
    let n = prepared_size _ _ _ _ _ _ _ c.args.self.now.prepared in
    λ t h. c.requires.same_set t ∙ stage-ends c.args.self.now.v.now 0 t (omega (arith, n.0))

pub loop-left-init : goal.loop-left-init
loop-left-init c =
    let p = c.args.self.now in
    let same = c.requires.same_set in record {
      state = record {
        accepts = p.prepared.query.settles.accepts;
        few = p.prepared.query.settles.few;
        wide = p.prepared.listed.all;
        masked = c.list_masks-masks.ensures;
        held_words = c.requires.restriction_words;
        listed = c.list_alive.ensures;
        ends = λ t h. same t ∙ stage-ends p.v.now 0 t h;
      };
      stage = record { same = same; counted = c.len-left.ensures ∙ c.list_alive.ensures.counted ∙ members-same _ _ same };
      before = λ m h. absurd (omega arith);
    }

pub returns-then-rest-left : goal.returns-then-rest-left
returns-then-rest-left c =
    let i = c.loop-left.invariant in
    let (same, value) = rests_survivors i.stage (c.remove_unserved-rest.ensures.by_index _ i.stage.same) i.before
    c.if-rest-left.true in
    record { same_set_2 = same; value = value }

pub overflow_add-done : goal.overflow_add-done
overflow_add-done c =
    let i = c.loop-left.invariant in
    let few : c.loop-left.done + 1 ≤ types c.args.self.now.v.now =
    rounds-left i.stage (c.remove_unserved-rest.ensures.by_index _ i.stage.same) i.before c.if-rest-left.false in
    omega (arith, few, types-bound c.args.self.now.v.now i.state.few)

pub loop-left-smaller : goal.loop-left-smaller
loop-left-smaller c =
    let i = c.loop-left.invariant in
    let few : c.loop-left.done + 1 ≤ types c.args.self.now.v.now =
    rounds-left i.stage (c.remove_unserved-rest.ensures.by_index _ i.stage.same) i.before c.if-rest-left.false in
    omega (arith, few)

pub loop-left-preserved : goal.loop-left-preserved
loop-left-preserved c =
    let i = c.loop-left.invariant in
    let after = c.remove_unserved-rest.ensures in
    let reached = after.by_index _ i.stage.same in record {
      state = after.eliminating_2;
      stage = reached;
      before = removing_on i.stage reached i.before c.if-rest-left.false;
    }
