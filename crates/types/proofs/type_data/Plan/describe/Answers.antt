-- `types::type_data::Plan::describe` meets its contract. Each part is taken from the table of truths.
-- Assumes nothing.
use native.Mathlib.Omega.{arith}
use mathlib.Core.Path.{refl}
use Rattle.types.proofs.Refinement.TypeData.{few-records, describe_done}
use Rattle.types.proofs.type_data.Plan.describe.Goals as goal

pub bounds-values-self : goal.bounds-values-self
bounds-values-self c =
    let p = c.args.self.now.prepared in omega (arith, p.query.first, few-records _ _ _ _ _ _ _ p)

pub bounds-values-self-2 : goal.bounds-values-self-2
bounds-values-self-2 c =
    let p = c.args.self.now.prepared in omega (arith, p.query.second, few-records _ _ _ _ _ _ _ p)

pub returns : goal.returns
returns c =
    let w = c.words-held.ensures in
    describe_done _ _ _ _ _ _ _ c.args.self.now.prepared c.args.t c.truths.new.values c.truths.ensures _ _ _ _
    c.statements_hold.ensures refl w.held_value w.filling_value
