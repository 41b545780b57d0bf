-- `records::check::Slot::check_sorts` meets its contract. The smallest row of the fields that do not fit is the first that
-- applies.
-- Assumes nothing.
use mathlib.Core.Path.{◌∙◌, sym, ap}
use Rattle.std.proofs.Common.{Some, None}
use Rattle.records.specs.Code.Fields.{number_or_none}
use Rattle.records.proofs.Refinement.Rows.{rows_told}
use Rattle.records.proofs.check.Slot.check_sorts.Goals as goal

pub returns-in-Some : goal.returns-in-Some
returns-in-Some c =
    let a = c.args in
    let s = a.self.now in
    rows_told s.v.now s.i a.sorts a.f (Some c.in-Some.row) _ _ _ (ap number_or_none (sym c.in-Some.is) ∙ c.first_fault.ensures)
    c.field_fits-a.ensures c.field_fits-b.ensures c.field_fits-next.ensures

pub returns-in-None : goal.returns-in-None
returns-in-None c =
    let a = c.args in
    let s = a.self.now in
    rows_told s.v.now s.i a.sorts a.f None _ _ _ (ap number_or_none (sym c.in-None.is) ∙ c.first_fault.ensures)
    c.field_fits-a.ensures c.field_fits-b.ensures c.field_fits-next.ensures
