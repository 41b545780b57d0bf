-- `scripts::index::Index::enter` meets its contract: the record that the search ended at, or record i, which is linked there.
-- Assumes nothing.
use native.Mathlib.Omega.{arith}
use Rattle.scripts.specs.Code.Index.{known, new}
use Rattle.scripts.proofs.index.Index.enter.Goals as goal

pub returns-then-found-ne0-clause-entered : goal.returns-then-found-ne0-clause-entered
returns-then-found-ne0-clause-entered c =
    known c.find_slot-slot.result c.find_slot-slot.ensures.found (omega (arith, c.if-found-ne0.true))

pub returns-clause-entered : goal.returns-clause-entered
returns-clause-entered c =
    new c.find_slot-slot.result c.find_slot-slot.ensures.found c.if-found-ne0.false
