-- `records::check::check_each` meets its contract. The loop's invariant: the records from `i` on decide.
-- Assumes nothing.
use Prim.Native.Nat.{◌-◌}
use mathlib.Core.Path.{◌≡◌}
use Rattle.records.specs.Check.{record_check}
use Rattle.records.specs.Format.{count}
use Rattle.records.specs.Outcome.{in_turn}
use Rattle.records.proofs.check.check_each.Given as goal

abbrev pub invariant-loop-i : goal.invariant-loop-i
invariant-loop-i l =
    in_turn (record_check l.v) 1 (count l.v - 1) ≡ in_turn (record_check l.v) l.i (count l.v - l.i)
