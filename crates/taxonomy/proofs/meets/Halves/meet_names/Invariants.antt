-- `taxonomy::meets::Halves::meet_names` meets its contract. The loop's invariant: the words of the names below `i` are their
-- meets.
-- Assumes nothing.
use mathlib.Core.Path.{◌≡◌}
use lib.ListN.{length}
use Rattle.types.specs.Comparison.{atom_limit}
use Rattle.taxonomy.specs.Code.Meets.{MeetsListed}
use Rattle.taxonomy.proofs.meets.Halves.meet_names.Given as goal

abbrev pub invariant-loop-i : goal.invariant-loop-i
invariant-loop-i l =
    record {
      size : length l.meets ≡ atom_limit;
      listed : MeetsListed l.self.low l.self.high l.names.atoms l.i l.meets;
    }
