-- `types::type_data::Plan::list_masks` meets its contract. The loop's invariant: the words of the roles below `role` are right.
-- Assumes nothing.
use native.Mathlib.Omega.{arith}
use mathlib.Core.Path.{ap}
use Rattle.records.specs.Format.{role_limit}
use Rattle.records.specs.declared.fields.Record.{Record}
use Rattle.types.proofs.Refinement.TypeData.{prepared_good}
use Rattle.records.proofs.Laws.Filling.{fill_turn}
use Rattle.types.proofs.type_data.Plan.list_masks.Goals as goal

pub bounds-masks-role : goal.bounds-masks-role
bounds-masks-role c =
    let most = (prepared_good _ _ _ _ _ _ _ c.args.self.now.prepared).roles in
    omega (arith, most, ap (λ (r : Record). r.b) c.read_at-count.ensures)

pub loop-role-preserved : goal.loop-role-preserved
loop-role-preserved c =
    let most = (prepared_good _ _ _ _ _ _ _ c.args.self.now.prepared).roles in
    fill_turn 0 role_limit _ _ _ _ (omega (arith, most, ap (λ (r : Record). r.b) c.read_at-count.ensures)) c.loop-role.invariant
    c.other_roles.ensures
