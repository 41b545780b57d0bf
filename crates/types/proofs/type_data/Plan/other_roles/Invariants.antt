-- `types::type_data::Plan::other_roles` meets its contract. The loop's invariant: `word` has the bits from `m` on.
-- Assumes nothing.
use lib.ListN.{length}
use mathlib.Core.Path.{◌≡◌}
use Rattle.records.proofs.Laws.Filling.{word_from}
use Rattle.types.proofs.Refinement.TypeData.{other_role}
use Rattle.types.proofs.type_data.Plan.other_roles.Given as goal

abbrev pub invariant-loop-m : goal.invariant-loop-m
invariant-loop-m l =
    l.word ≡ word_from (length l.self.restrictions.now) (other_role l.self.restrictions.now l.role) l.m
