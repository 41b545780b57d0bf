-- Nearest broader names: the names, which of them are broader, the table written, and the call's answer.
use Rattle.std.specs.Prelude.{ℕ, ◌*◌, ◌/◌, ◌%◌, Bool, cond, not, ◌&&◌, ◌||◌, List, ◌++◌, ltb, leb, length, get_or, drop}
use Rattle.records.specs.Outcome.{Outcome, Check, accepted, refused, ◌then◌, require}
use Rattle.records.specs.Format.{record_at, count}
use Rattle.records.specs.Kinds.{is_name}
use Rattle.records.specs.Check.{vocabulary_check}
use Rattle.records.specs.Atoms.{atoms}
use Rattle.records.specs.Finite.{any_below, all_below, list_below, table, has, digit}
use Rattle.types.specs.declared.answers.Counts.{Counts}
use Rattle.types.specs.Types.{types, truth}
use Rattle.types.specs.Survivors.{survivors}
use Rattle.types.specs.Comparison.{atom_limit, size_check, counts}
use Rattle.types.specs.Bitmap.{written}

-- "names in record order": their records, how many there are, and the record of name m.
abbrev pub names : List ℕ → List ℕ
names v = list_below (λ i. is_name (record_at v i).kind) (count v)

abbrev pub name_count : List ℕ → ℕ
name_count v = length (names v)

abbrev pub name_at : List ℕ → ℕ → ℕ
name_at v m = get_or (names v) m 0

-- "Broader too means in every such interpretation": b is true at every survivor at which a is. That this comes to every finite
-- interpretation satisfying the statements is proved (proofs/Theorems/Broader.antt).
unfoldable pub broader : List ℕ → ℕ → ℕ → Bool
broader v a b = all_below (λ t. not (has (survivors v) t && truth v t a) || truth v t b) (types v)

-- "the two are equal", that is, each is broader than the other; "the second is strictly broader", that is, and not equal.
abbrev pub equivalent : List ℕ → ℕ → ℕ → Bool
equivalent v a b = broader v a b && broader v b a

abbrev pub strictly_broader : List ℕ → ℕ → ℕ → Bool
strictly_broader v a b = broader v a b && not (broader v b a)

-- A "name strictly between" them.
abbrev pub between : List ℕ → ℕ → ℕ → Bool
between v a b = any_below (λ m. strictly_broader v a (name_at v m) && strictly_broader v (name_at v m) b) (name_count v)

-- "2 if the two are equal in every finite interpretation satisfying the statements, 1 if the second is strictly broader with no
-- name strictly between, else 0"
unfoldable pub entry : List ℕ → ℕ → ℕ → ℕ
entry v a b = cond (equivalent v a b) 2 (digit (strictly_broader v a b && not (between v a b)))

-- "the first 144": a byte for each pair of the names that a vocabulary to be compared can have.
abbrev pub taxonomy_bytes : ℕ
taxonomy_bytes = atom_limit * atom_limit

-- "With no query, for all pairs of names in record order, write one byte to a second lent buffer". "Rows go by the first name,
-- one byte per name; the rest of the first 144 are zero".
abbrev pub entry_byte : List ℕ → ℕ → ℕ
entry_byte v n =
    cond (ltb n (name_count v * name_count v)) (entry v (name_at v (n / name_count v)) (name_at v (n % name_count v))) 0

unfoldable pub taxonomy : List ℕ → List ℕ
taxonomy v = table taxonomy_bytes (entry_byte v)

-- Row 26: "for fewer than 144 bytes in the second buffer, place 0"
abbrev pub table_check : ℕ → Check
table_check lent = require (leb taxonomy_bytes lent) 26 0

-- "Turned away: 26, after 12"; with no query there is no row 10. "both counts are as in the comparison".
unfoldable pub classification : List ℕ → ℕ → ℕ → Outcome Counts
classification v lent room =
    vocabulary_check v then size_check (atoms v) lent then table_check room then accepted (counts v)

-- The second buffer after the call: the table, and "later bytes keep their content"; refused, as it was.
abbrev pub tabulated : Outcome Counts → List ℕ → List ℕ → List ℕ
tabulated (accepted c) v room = taxonomy v ++ drop taxonomy_bytes room
tabulated (refused n p) v room = room

-- Both buffers after the call, by what they were: "The first buffer .. as in the comparison", and the second.
abbrev pub first_after : List ℕ → List ℕ → List ℕ → List ℕ
first_after v lent room = written (classification v (length lent) (length room)) v lent

abbrev pub second_after : List ℕ → List ℕ → List ℕ → List ℕ
second_after v lent room = tabulated (classification v (length lent) (length room)) v room
