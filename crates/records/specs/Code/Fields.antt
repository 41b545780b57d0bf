-- What the code computes with: rows 4 to 7 at a record, field by field. No promise of a call speaks of it.
use Rattle.std.specs.Prelude.{ℕ, ◌*◌, ◌≤◌, min, ◌≡◌, Bool, cond, not, ◌&&◌, ◌||◌, List, length, Option, Some, None}
use Rattle.records.specs.Finite.{occurs}
use Rattle.records.specs.Format.{record_size, role_count}
use Rattle.records.specs.Kinds.{sorts_of}
use Rattle.records.specs.Check.{sort_fits, row, field_rows, kind_fits}
use Rattle.records.specs.declared.fields.Record.{Record}
use Rattle.records.specs.declared.kinds.Sort.{Sort}
use Rattle.records.specs.declared.kinds.Sorts.{Sorts}
use Rattle.records.specs.declared.refusals.Row.{Row}
use Rattle.records.specs.Refusals.{number_of}

-- The rows of fields have nothing against x in a field of record i that holds this sort. A link is for row 8, which comes after
-- all records.
unfoldable pub field_fits : List ℕ → ℕ → Sort → ℕ → Bool
field_fits v i sort x = not (occurs (row sort) field_rows) || sort_fits v i sort x

-- Of the fields that do not fit, the smallest row is the first that applies (proofs/Refinement/Rows.antt); above all rows,
-- where all fit.
abbrev pub no_fault : ℕ
no_fault = 255

abbrev pub number_or_none : Option Row → ℕ
number_or_none None = no_fault
number_or_none (Some row) = number_of row

abbrev pub all_fit : List ℕ → ℕ → Sorts → Record → Bool
all_fit v i s r = field_fits v i s.a r.a && (field_fits v i s.b r.b && field_fits v i s.next r.next)

abbrev pub first_of : Sorts → Bool → Bool → Bool → ℕ
first_of s a b next = min (cond a no_fault (row s.a)) (min (cond b no_fault (row s.b)) (cond next no_fault (row s.next)))

-- Rows 3 to 7 have nothing against the fields r of record i.
abbrev pub record_fits : List ℕ → ℕ → Record → Bool
record_fits v i r = kind_fits r && all_fit v i (sorts_of r.kind) r

-- What the check of record i may use: the records before it can be read, and how many roles there are.
pub record AtRecord (v : List ℕ) (i roles : ℕ) : Type 0 where
  pub earlier : record_size * i ≤ length v
  pub counted : roles ≡ role_count v
