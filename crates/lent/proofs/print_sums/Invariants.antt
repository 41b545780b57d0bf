-- The sums are those of the bytes that the loop has passed.
use Rattle.std.proofs.Common.{◌≡◌, ◌^◌, take}
use Rattle.std.specs.Prelude.{◌%◌}
use Rattle.std.specs.List.{sum}
use Rattle.lent.specs.Told.{sum_of_sums}
use Rattle.lent.proofs.print_sums.Given as goal

abbrev pub invariant-loop-byte : goal.invariant-loop-byte
invariant-loop-byte g l = (l.low ≡ sum (take l.byte-index l.buffer) % 2 ^ 64)
    × (l.high ≡ sum_of_sums (take l.byte-index l.buffer) % 2 ^ 64)
