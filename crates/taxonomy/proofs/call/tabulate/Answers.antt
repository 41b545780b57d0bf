-- `taxonomy::call::tabulate` meets its contract. Each call has what the one before it left.
-- Assumes nothing.
use Prim.Native.Nat.{ℕ}
use native.Mathlib.Omega.{arith}
use mathlib.Core.List.{List, ◌++◌}
use mathlib.Core.Path.{ap, ◌∙◌}
use lib.ListN.{drop}
use Rattle.records.proofs.Laws.Filling.{ends-empty}
use Rattle.types.specs.Comparison.{type_limit}
use Rattle.taxonomy.specs.Taxonomy.{taxonomy_bytes}
use Rattle.taxonomy.proofs.Refinement.Table.{table-right}
use Rattle.taxonomy.proofs.call.tabulate.Goals as goal

pub settle_types-counts-requires-clause-empty : goal.settle_types-counts-requires-clause-empty
settle_types-counts-requires-clause-empty c =
    λ t. ends-empty type_limit 0 t (omega arith)

pub returns-clause-room_after : goal.returns-clause-room_after
returns-clause-room_after c =
    c.write.ensures ∙ ap (λ (l : List ℕ). l ++ drop taxonomy_bytes c.args.room.now)
    (table-right c.args.v.now.bytes.now _ c.of-names.ensures c.find_broader-meets.ensures)
