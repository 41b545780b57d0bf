-- The comparison: rows 10 to 12 and the answer.
use Rattle.std.specs.Prelude.{ℕ, ◌^◌, Bool, cond, not, ◌&&◌, List, Option, Some, None, ltb, leb}
use Rattle.std.specs.Bool.{beq}
use Rattle.records.specs.Outcome.{Outcome, Check, accepted, ◌then◌, require}
use Rattle.records.specs.Format.{record_at, count}
use Rattle.records.specs.Kinds.{is_term}
use Rattle.records.specs.Check.{vocabulary_check}
use Rattle.records.specs.Atoms.{atoms}
use Rattle.records.specs.Finite.{least, has, members}
use Rattle.types.specs.declared.answers.Counts.{Counts}
use Rattle.types.specs.Types.{types, truth}
use Rattle.types.specs.Survivors.{survivors, rounds}

-- "Equal or Different with the smallest survivor at which the two terms differ; with either go the number of survivors and of
-- rounds that removed something".
pub data Verdict : Type 0 where
  equal : ℕ → ℕ → Verdict
  different : ℕ → ℕ → ℕ → Verdict

-- "with either go the number of survivors and of rounds that removed something"
abbrev pub counts_of : ℕ → ℕ → Counts
counts_of alive done = record { survivors = alive; rounds = done }

abbrev pub counts : List ℕ → Counts
counts v = counts_of (members (survivors v)) (rounds v)

-- The terms a and b differ at survivor t.
abbrev pub distinguishes : List ℕ → ℕ → ℕ → ℕ → Bool
distinguishes v a b t = has (survivors v) t && not (beq (truth v t a) (truth v t b))

-- the smallest survivor at which they differ, or 2^k
abbrev pub first_distinguishing : List ℕ → ℕ → ℕ → ℕ
first_distinguishing v a b = least (distinguishes v a b) (types v)

-- That number, where it is below the bound.
abbrev pub below : ℕ → ℕ → Option ℕ
below t n = cond (ltb t n) (Some t) None

abbrev pub verdict_with : Option ℕ → Counts → Verdict
verdict_with (Some element) n = different element n.survivors n.rounds
verdict_with None n = equal n.survivors n.rounds

unfoldable pub verdict : List ℕ → ℕ → ℕ → Verdict
verdict v a b = verdict_with (below (first_distinguishing v a b) (types v)) (counts v)

-- The bounds of rows 11 and 12: the atoms of a vocabulary that is compared, so its types, and the bytes of the bitmap, which
-- has a bit for each type.
abbrev pub atom_limit : ℕ
atom_limit = 12

abbrev pub type_limit : ℕ
type_limit = 2 ^ atom_limit

abbrev pub bitmap_bytes : ℕ
bitmap_bytes = 512

-- Row 10, "Query A, then B": "no term record", place the number
abbrev pub term_check : List ℕ → ℕ → Check
term_check v x = require (ltb x (count v) && is_term (record_at v x).kind) 10 x

-- Row 11: "k over 12", place k
abbrev pub atoms_check : ℕ → Check
atoms_check k = require (leb k atom_limit) 11 k

-- Row 12: "under 512 bytes lent"
abbrev pub lent_check : ℕ → Check
lent_check lent = require (leb bitmap_bytes lent) 12 0

-- Rows 11 and 12, which do not look at the query.
abbrev pub size_check : ℕ → ℕ → Check
size_check k lent = atoms_check k then lent_check lent

-- "The order for a comparison is 1 to 8, 10, 11, 12".
abbrev pub query_check : List ℕ → ℕ → ℕ → ℕ → Check
query_check v a b lent = term_check v a then term_check v b then size_check (atoms v) lent

unfoldable pub comparison : List ℕ → ℕ → ℕ → ℕ → Outcome Verdict
comparison v a b lent = vocabulary_check v then query_check v a b lent then accepted (verdict v a b)
