-- What the code's types stand for.
use Rattle.std.specs.Prelude.{ℕ, ◌≡◌, Option, Some, None, List, [], ◌∷◌, length}
use Rattle.records.specs.Kinds.{construct_of}
use Rattle.records.specs.declared.fields.Record.{Record}
use Rattle.columns.specs.Columns.{Column, columns_of, takes_y}
use Rattle.columns.specs.Code.Packed.{packed_at}
use Rattle.columns.specs.declared.column.Column as code
use Rattle.columns.specs.declared.column.Column.TheVariants.{Empty, One, Two, Three}
use Rattle.columns.specs.declared.column.Terms.{Terms}
use Rattle.columns.specs.declared.column.Shape.{Shape}

-- The numbers of a column's literals.
abbrev pub literals : code.Column → List ℕ
literals Empty = []
literals (One l) = l ∷ []
literals (Two l m) = l ∷ m ∷ []
literals (Three l m n) = l ∷ m ∷ n ∷ []

-- Those that a column of the paper has at the code's terms.
abbrev pub packed_by : Terms → Column → List ℕ
packed_by at c = packed_at at.x at.y at.fx c

-- How many literals a column has, and whether y stands in it.
pub record HasShape (s : Shape) (c : Column) : Type 0 where
  pub size : s.size ≡ length c
  pub takes : s.y ≡ takes_y c

-- The columns that a record gives its owner; none where there is no record.
abbrev pub columns_given : ℕ → Option Record → List Column
columns_given i None = []
columns_given i (Some r) = columns_of i (construct_of r)
