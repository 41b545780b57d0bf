-- `types::eliminate::remove_unserved` meets its contract. The table that the removals look at is that of the set as the
-- round began. A round of a stage is the next stage.
-- Assumes nothing.
use native.Mathlib.Omega.{arith}
use mathlib.Core.Path.{◌∙◌}
use Rattle.types.specs.Comparison.{atom_limit}
use Rattle.types.proofs.Invariants.Zeta.{power, words-room}
use Rattle.types.proofs.Refinement.Rounds.{bits_few, filler_word_in, joins_done, round-stage}
use Rattle.types.proofs.eliminate.remove_unserved.Goals as goal

pub overflow_shl-bits : goal.overflow_shl-bits
overflow_shl-bits c =
    let few = bits_few c.requires.eliminating in omega arith

pub enter_words-requires-clause-by_index_2 : goal.enter_words-requires-clause-by_index_2
enter_words-requires-clause-by_index_2 c =
    rw c.as_slice.ensures (filler_word_in c.requires.eliminating c.args.filling.now c.requires.filler_words)

pub enter_words-requires-clause-size_le_type_limit : goal.enter_words-requires-clause-size_le_type_limit
enter_words-requires-clause-size_le_type_limit c =
    words-room _ atom_limit (bits_few c.requires.eliminating) (omega arith)

pub zeta_transform-requires : goal.zeta_transform-requires
zeta_transform-requires c = bits_few c.requires.eliminating

pub remove_by_roles-requires-clause-joins : goal.remove_by_roles-requires-clause-joins
remove_by_roles-requires-clause-joins c =
    let s = c.requires.eliminating in
    joins_done s c.args.filling.now c.requires.filler_words _ _ _ (power c.args.bits (omega (arith, bits_few s)))
    (rw c.as_slice.ensures at c.enter_words.ensures) c.zeta_transform.ensures

pub returns-clause-by_index : goal.returns-clause-by_index
returns-clause-by_index c =
    let after = c.remove_by_roles.ensures in
    round-stage _ c.args.alive.now _ _ after.same_set (after.left ∙ after.eliminating_2.listed.counted)
