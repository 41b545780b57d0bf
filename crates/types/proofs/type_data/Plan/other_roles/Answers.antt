-- `types::type_data::Plan::other_roles` meets its contract. The loop's invariant: `word` has the bits from `m` on.
-- Assumes nothing.
use native.Mathlib.Omega.{arith}
use mathlib.Core.Path.{refl, ◌∙◌}
use lib.ListN.{length}
use Rattle.records.proofs.Laws.Filling.{word_start, word_turn, word_bound, word_end}
use Rattle.types.specs.Comparison.{atom_limit}
use Rattle.types.proofs.Refinement.TypeData.{other_role, other_roles_done, listing_bounded}
use Rattle.types.proofs.type_data.Plan.other_roles.Goals as goal

pub loop-m-init : goal.loop-m-init
loop-m-init c =
    let list = c.args.self.now.restrictions.now in word_start (length list) (other_role list c.args.role)

pub push_bit-word-requires : goal.push_bit-word-requires
push_bit-word-requires c =
    let p = c.args.self.now in
    let list = p.restrictions.now in
    word_bound (length list) (other_role list c.args.role) atom_limit c.loop-m.m _
    (listing_bounded _ _ _ _ _ _ _ p.prepared).few c.loop-m.invariant

pub loop-m-preserved : goal.loop-m-preserved
loop-m-preserved c =
    let list = c.args.self.now.restrictions.now in
    c.push_bit-word.ensures
    ∙ word_turn (length list) (other_role list c.args.role) c.loop-m.m c.loop-m.word _ (omega arith) (omega arith)
    c.loop-m.invariant refl

pub returns : goal.returns
returns c =
    let p = c.args.self.now in
    let list = p.restrictions.now in
    word_end (length list) (other_role list c.args.role) c.loop-m.m _ (omega arith) c.loop-m.invariant
    ∙ other_roles_done _ _ _ _ _ _ _ p.prepared c.args.role
