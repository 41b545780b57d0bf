-- The list of the names.
--   byte_digit    a truth as a number
--   numbers-set   a list of atoms' numbers, with one more
-- Assumes nothing.
use Prim.Native.Nat.{ℕ, ◌<◌}
use mathlib.Core.Path.{◌≡◌, refl}
use mathlib.Core.Bool.{Bool, true, false}
use mathlib.Core.List.{List}
use lib.ListN.{length, set}
use mir.Val.{bool_byte}
use Rattle.records.specs.Finite.{digit}
use Rattle.records.proofs.Laws.Filling.{set-each}
use Rattle.types.specs.Comparison.{atom_limit}
use Rattle.taxonomy.specs.Code.Meets.{AtomNumbers}

pub byte_digit : (b : Bool) → bool_byte b ≡ digit b
byte_digit true = refl
byte_digit false = refl

pub numbers-set : (l : List ℕ) (i x : ℕ) → AtomNumbers l → i < length l → x < atom_limit → AtomNumbers (set l i x)
numbers-set l i x numbers h less = set-each (λ j y. y < atom_limit) l i x 0 h less (λ j n. numbers j)
