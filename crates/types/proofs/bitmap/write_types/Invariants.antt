-- `types::bitmap::write_types` meets its contract. The loop's invariant: the first `n` bytes of the bitmap stand over what
-- was lent.
-- Assumes nothing.
use mathlib.Core.Path.{◌≡◌}
use Rattle.types.specs.Bitmap.{byte_of}
use Rattle.records.proofs.Laws.Filling.{table_over}
use Rattle.types.proofs.bitmap.write_types.Given as goal

abbrev pub invariant-loop-n : goal.invariant-loop-n
invariant-loop-n l =
    l.lent ≡ table_over (byte_of l.alive) l.n l.initial.lent
