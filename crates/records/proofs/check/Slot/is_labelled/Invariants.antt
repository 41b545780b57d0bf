-- `records::check::Slot::is_labelled` meets its contract. The loop's invariant: `found` is whether a record below `j` is of
-- this kind and has this label.
-- Assumes nothing.
use mathlib.Core.Path.{◌≡◌}
use Rattle.records.specs.Finite.{any_below}
use Rattle.records.specs.Check.{named}
use Rattle.records.specs.Code.Kinds.{number_of_kind}
use Rattle.records.proofs.check.Slot.is_labelled.Given as goal

abbrev pub invariant-loop-j : goal.invariant-loop-j
invariant-loop-j l =
    l.found ≡ any_below (named l.self.v.now (number_of_kind l.kind) l.label) l.j
