-- `taxonomy::meets::Halves::of` meets its contract. The loop's invariant: both tables have the meets of the members below `t`.
-- Assumes nothing.
use Rattle.taxonomy.specs.Code.Meets.{Meets, low, high}
use Rattle.taxonomy.proofs.meets.Halves.of.Given as goal

abbrev pub invariant-loop-t : goal.invariant-loop-t
invariant-loop-t l = record { by_low : Meets low l.alive l.t l.lows; by_high : Meets high l.alive l.t l.highs }
