-- `records::call::record` meets its contract. Where the call accepts, its offset leaves room for a record.
-- Assumes nothing.
use native.Mathlib.Omega.{arith}
use mathlib.Core.Path.{◌∙◌, sym, ap}
use Rattle.records.specs.Refusals.{answered}
use Rattle.records.proofs.Theorems.Bounds.{record_within}
use Rattle.records.proofs.call.record.Goals as goal

pub overflow_add-result : goal.overflow_add-result
overflow_add-result c =
    omega (arith, record_within _ _ _ (sym c.find_record.ensures ∙ ap answered c.in-Ok.is))

pub slice_bounds-result-end : goal.slice_bounds-result-end
slice_bounds-result-end c =
    omega (arith, record_within _ _ _ (sym c.find_record.ensures ∙ ap answered c.in-Ok.is))
