-- `types::type_data::Plan::list_masks` meets its contract. The loop's invariant: the words of the roles below `role` are right.
-- Assumes nothing.
use Rattle.records.specs.Format.{role_limit}
use Rattle.types.specs.Code.Words.{other_role_word}
use Rattle.records.proofs.Laws.Filling.{Filled}
use Rattle.types.proofs.type_data.Plan.list_masks.Given as goal

abbrev pub invariant-loop-role : goal.invariant-loop-role
invariant-loop-role l =
    Filled 0 role_limit l.masks (other_role_word l.self.v.now) l.role
