-- The bytes that the loop has passed are filled.
use Rattle.std.proofs.Common.{◌≡◌, ◌<◌, ◌+◌, ◌*◌, ℕ, take, slice_index}
use Rattle.std.specs.Prelude.{◌%◌}
use Rattle.lent.specs.Told.{filled}
use Rattle.lent.proofs.fill.Given as goal

abbrev pub invariant-loop-byte : goal.invariant-loop-byte
invariant-loop-byte l = (l.value ≡ (7 * l.byte-index + l.seed) % 256)
    × (take l.byte-index l.byte-items ≡ filled l.byte-index l.seed)
    × ((k : ℕ) → k < l.byte-index → slice_index l.byte-items k ≡ (7 * k + l.seed) % 256)
