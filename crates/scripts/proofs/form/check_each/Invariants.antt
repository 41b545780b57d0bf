-- `scripts::form::check_each` meets its contract. The loop's invariant: the records from `i` on decide.
-- Assumes nothing.
use Prim.Native.Nat.{◌-◌}
use mathlib.Core.Path.{◌≡◌}
use Rattle.records.specs.Outcome.{in_turn}
use Rattle.scripts.specs.Format.{entries}
use Rattle.scripts.specs.Form.{entry_check}
use Rattle.scripts.proofs.form.check_each.Given as goal

abbrev pub invariant-loop-i : goal.invariant-loop-i
invariant-loop-i l =
    in_turn (entry_check l.vocabulary.bytes.now l.s) 1 (entries l.s - 1)
    ≡ in_turn (entry_check l.vocabulary.bytes.now l.s) l.i (entries l.s - l.i)
