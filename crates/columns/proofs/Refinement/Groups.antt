-- The columns of a record by the kind that its number reads as, how many literals they have, and which of them take a y.
--   NoY, shape_plain                        columns without a y
--   shape_restriction                       y stands in the third column of some and all alone
--   column_read, shape_read, plain_read     a column's numbers and its shape are those of the kind that was read
-- Assumes nothing.
use Prim.Native.Nat.{ℕ, zero, suc}
use native.Mathlib.Omega.{arith}
use mathlib.Core.Path.{◌≡◌, refl, sym, ap, ◌∙◌}
use mathlib.Core.Bool.{Bool, false}
use mathlib.Core.List.{List, [], ◌∷◌, map}
use Rattle.std.proofs.Common.{Option}
use lib.ListN.{length, get_or, get_or-map}
use lib.Dec.{eqb}
use borrow.Author.Tests.{ne_eqb}
use Rattle.records.specs.Kinds.{construct_of, Kind as Line}
use Rattle.records.specs.Code.Kinds.{kind_numbered}
use Rattle.records.specs.declared.fields.Record.{Record}
use Rattle.records.specs.declared.kinds.Kind.{Kind}
use Rattle.records.proofs.Laws.Kinds.{told, same_kind}
use Rattle.columns.specs.Columns.{Column, columns_of, takes_y}
use Rattle.columns.specs.Code.Packed.{restriction_group}
use Rattle.columns.specs.Code.Kept.{packed_by, HasShape}
use Rattle.columns.specs.declared.column.Terms.{Terms}
use Rattle.columns.specs.declared.column.Shape.{Shape}

-- No column of the list has a y.
abbrev pub NoY : List Column → Type 0
NoY [] = Unit {0}
NoY (c ∷ cs) = (takes_y c ≡ false) × NoY cs

no_y : (cs : List Column) → NoY cs → (n : ℕ) → takes_y (get_or cs n []) ≡ false
unfolding takes_y
no_y [] h n = refl
no_y (c ∷ cs) h zero = h.0
no_y (c ∷ cs) h (suc n) = no_y cs h.1 n

pub shape_plain : (cs : List Column) → NoY cs → (s : Shape) (n : ℕ) → s.size ≡ get_or (map length cs) n 0 → s.y ≡ false
    → HasShape s (get_or cs n [])
shape_plain cs none s n size takes =
    record { size = size ∙ get_or-map length cs n []; takes = takes ∙ sym (no_y cs none n) }

pub shape_restriction : (sign : Bool) (i r j n : ℕ) (s : Shape) → s.size ≡ get_or (2 ∷ 2 ∷ 3 ∷ []) n 0 → s.y ≡ eqb n 2
    → HasShape s (get_or (restriction_group sign i r j) n [])
unfolding takes_y
shape_restriction sign i r j n s size takes =
    record { size = size ∙ get_or-map length (restriction_group sign i r j) n []; takes = takes ∙ third n }
  where
    third : (n : ℕ) → eqb n 2 ≡ takes_y (get_or (restriction_group sign i r j) n [])
    third zero = refl
    third (suc zero) = refl
    third (suc (suc zero)) = refl
    third (suc (suc (suc m))) = ne_eqb (suc (suc (suc m))) 2 (λ e. absurd (omega arith))

module _ (r : Record) (i n : ℕ) (read o : Option Kind) (numbered : read ≡ kind_numbered r.kind) (is : read ≡ o) where
  columns_read : columns_of i ((told o).says r) ≡ columns_of i (construct_of r)
  columns_read = ap (λ (l : Line). columns_of i (l.says r)) (same_kind r.kind read o numbered is)

  pub column_read : (at : Terms)
      → packed_by at (get_or (columns_of i ((told o).says r)) n []) ≡ packed_by at (get_or (columns_of i (construct_of r)) n [])
  column_read at = ap (λ (cs : List Column). packed_by at (get_or cs n [])) columns_read

  pub shape_read : (s : Shape) → HasShape s (get_or (columns_of i ((told o).says r)) n [])
      → HasShape s (get_or (columns_of i (construct_of r)) n [])
  shape_read s h = rw (← columns_read) h

  pub plain_read : NoY (columns_of i ((told o).says r)) → (s : Shape)
      → s.size ≡ get_or (map length (columns_of i ((told o).says r))) n 0 → s.y ≡ false
      → HasShape s (get_or (columns_of i (construct_of r)) n [])
  plain_read none s size takes = shape_read s (shape_plain (columns_of i ((told o).says r)) none s n size takes)
