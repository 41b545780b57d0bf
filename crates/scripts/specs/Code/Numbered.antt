-- What the code computes with: the run of Run where terms are record numbers and literals are numbers.
use Rattle.std.specs.Prelude.{ℕ, false, List}
use Rattle.columns.specs.Literals.{concept}
use Rattle.columns.specs.Columns.{column_at}
use Rattle.columns.specs.Code.Packed.{packed, packed_at}
use Rattle.scripts.specs.Steps.{Extension}
use Rattle.scripts.specs.Format.{query_of}
use Rattle.scripts.specs.Run.{Setting}
use Rattle.scripts.specs.Code.Codes.{origin, code_of, code_at, opposed}

-- The column that an extension uses, at its terms. The code of the header, which stands where there is no y, is 0.
abbrev pub used_numbers : List ℕ → List ℕ → Extension ℕ → List ℕ
used_numbers v s e =
    packed_at (code_at s e.first) (code_at s e.second) (code_of e.owner (origin s e.first))
    (column_at v (query_of s) e.owner e.column)

-- A start's column.
abbrev pub start_numbers : List ℕ → List ℕ → ℕ → List ℕ
start_numbers v s n = packed_at 0 0 0 (column_at v (query_of s) 0 n)

-- The number of `no_literal` stands where there is none.
abbrev pub no_number : ℕ
no_number = packed (concept false 0 0)

-- The run over numbers.
abbrev pub numbered : List ℕ → List ℕ → Setting ℕ ℕ
numbered v s =
    record {
      uses = used_numbers v s;
      starts = start_numbers v s;
      opposed = opposed;
      nothing = no_number;
    }
