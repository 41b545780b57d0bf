-- `types::vocabulary::Query::decide` meets its contract. Each part of the verdict comes from the survivors, which were settled.
-- Assumes nothing.
use native.Mathlib.Omega.{arith}
use mathlib.Core.Path.{ap, ap₂, ◌∙◌}
use Rattle.records.specs.Finite.{least}
use Rattle.types.specs.Comparison.{type_limit, below}
use Rattle.types.proofs.Invariants.Answers.{verdict-same, alive_first}
use Rattle.types.proofs.Theorems.Survivors.{types-bound}
use Rattle.records.proofs.Laws.Filling.{ends-empty}
use Rattle.types.proofs.vocabulary.Query.decide.Goals as goal

pub settle_query-counts-requires-clause-empty : goal.settle_query-counts-requires-clause-empty
settle_query-counts-requires-clause-empty c =
    λ t. ends-empty type_limit 0 t (omega arith)

pub find_first-requires : goal.find_first-requires
find_first-requires c =
    let v = c.args.self.now.v in omega (arith, c.type_count.ensures, types-bound v.bytes.now v.few)

pub returns : goal.returns
returns c =
    let q = c.args.self.now in
    let v = q.v.bytes.now in
    let size = c.type_count.ensures in
    let last = c.settle_query-counts.new in
    let e = c.settle_query-counts.ensures in record {
      result_value = c.conclude.ensures
          ∙ verdict-same v q.a q.b _ _ (c.find_first.ensures
          ∙ ap₂ below (ap (least _) size ∙ alive_first v last.alive e.settled.alive_at q.a q.b last.differs e.settled.differs_at)
          size) e.value;
      lent_after = e.lent_after;
    }
