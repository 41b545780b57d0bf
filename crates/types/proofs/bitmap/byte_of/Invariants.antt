-- `types::bitmap::byte_of` meets its contract. The loop's invariant: `byte` is the number of the bits from `j` on.
-- Assumes nothing.
use Prim.Native.Nat.{ℕ, ◌+◌, ◌*◌}
use mathlib.Core.Bool.{Bool}
use mathlib.Core.List.{List}
use mathlib.Core.Path.{◌≡◌}
use Rattle.records.specs.Finite.{has}
use Rattle.records.proofs.Laws.Filling.{word_from}
use Rattle.types.proofs.bitmap.byte_of.Given as goal

-- bit j of byte n
abbrev pub bits : List Bool → ℕ → ℕ → Bool
bits alive n j = has alive (8 * n + j)

abbrev pub invariant-loop-j : goal.invariant-loop-j
invariant-loop-j l =
    l.byte ≡ word_from 8 (bits l.alive l.n) l.j
