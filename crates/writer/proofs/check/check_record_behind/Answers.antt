-- `writer::check::check_record_behind` meets its contract. Rows 1 to 8 and 27 come first; then the new record is checked.
-- Assumes nothing.
use native.Mathlib.Omega.{arith}
use mathlib.Core.Path.{sym, ap, ◌∙◌}
use Rattle.records.specs.Refusals.{answered}
use Rattle.writer.proofs.Refinement.Checks.{room_passed}
use Rattle.writer.proofs.check.check_record_behind.Goals as goal

pub read_at-requires : goal.read_at-requires
read_at-requires c =
    let good = room_passed c.args.v.now c.args.size (sym (ap answered (sym c.in_ok-check_room.was) ∙ c.check_room.ensures)) in
    omega (arith, good.sized.least)
