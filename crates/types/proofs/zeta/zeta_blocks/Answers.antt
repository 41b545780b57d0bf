-- `types::zeta::zeta_blocks` meets its contract. The loop's invariant: the entries below `at`, which ends a block of two
-- halves, are joined where they have bit n, all others are the caller's.
-- Assumes nothing.
use native.Mathlib.Omega.{arith}
use Rattle.types.proofs.Invariants.Zeta.{pair_room, pair_turn, zeta-step_end}
use Rattle.types.specs.Comparison.{atom_limit}
use Rattle.types.proofs.zeta.zeta_blocks.Goals as goal

pub join_block-requires : goal.join_block-requires
join_block-requires c =
    let start = c.requires in
    pair_room _ _ _ _ c.loop-at.invariant atom_limit _ start.size_le_type_limit start.n_lt_atom_limit (omega arith)
    c.loop-at-test.true

pub loop-at-preserved : goal.loop-at-preserved
loop-at-preserved c =
    let start = c.requires in
    pair_turn _ _ _ _ c.loop-at.invariant atom_limit _ start.size_le_type_limit start.n_lt_atom_limit (omega arith) _
    c.join_block.ensures

pub returns-2 : goal.returns-2
returns-2 c =
    let start = c.requires in
    let last = pair_turn _ _ _ _ c.loop-at.invariant atom_limit _ start.size_le_type_limit start.n_lt_atom_limit
    (omega arith) _ c.join_block.ensures in
    zeta-step_end _ _ _ _ _ last.joined (omega arith)
