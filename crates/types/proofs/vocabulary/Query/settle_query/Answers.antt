-- `types::vocabulary::Query::settle_query` meets its contract. The bytes come from the table of the survivors.
-- Assumes nothing.
use Prim.Native.Nat.{ℕ}
use native.Mathlib.Omega.{arith}
use mathlib.Core.List.{List, ◌++◌}
use mathlib.Core.Path.{ap, ◌∙◌}
use lib.ListN.{drop}
use Rattle.types.specs.Comparison.{bitmap_bytes}
use Rattle.types.proofs.Invariants.Answers.{alive_bitmap}
use Rattle.types.proofs.Refinement.Rounds.{survivors_end}
use Rattle.types.proofs.Theorems.Survivors.{types-bound}
use Rattle.types.proofs.vocabulary.Query.settle_query.Goals as goal

pub write_bitmap-requires-clause-size_le_type_limit : goal.write_bitmap-requires-clause-size_le_type_limit
write_bitmap-requires-clause-size_le_type_limit c =
    let v = c.args.self.now.v in omega (arith, c.type_count.ensures, types-bound v.bytes.now v.few)

pub write_bitmap-requires-clause-by_index : goal.write_bitmap-requires-clause-by_index
write_bitmap-requires-clause-by_index c =
    λ t h. c.settle-settled.ensures.settled.alive_at t
    ∙ survivors_end c.args.self.now.v.bytes.now t (omega (arith, c.type_count.ensures))

pub returns-clause-lent_after : goal.returns-clause-lent_after
returns-clause-lent_after c =
    c.write_bitmap.ensures
    ∙ ap (λ (l : List ℕ). l ++ drop bitmap_bytes c.args.lent.now)
    (alive_bitmap c.args.self.now.v.bytes.now c.settle-settled.new.alive c.settle-settled.ensures.settled.alive_at)
