-- `records::layout::check_each_link` meets its contract. The loop's invariant: the records from `i` on decide.
-- Assumes nothing.
use Rattle.std.proofs.Common.{◌≡◌, ◌-◌, ◌/◌, length}
use Rattle.records.specs.Code.Layout.{link_check}
use Rattle.records.specs.Outcome.{in_turn}
use Rattle.records.specs.Refusals.{number_of}
use Rattle.records.proofs.layout.check_each_link.Given as goal

abbrev pub invariant-loop-i : goal.invariant-loop-i
invariant-loop-i g l =
    let e = g.E.Layout in
    let check = link_check e.SIZE e.at e.linked e.next (number_of l.row) l.bytes in
    in_turn check 1 (length l.bytes / e.SIZE - 1) ≡ in_turn check l.i (length l.bytes / e.SIZE - l.i)
