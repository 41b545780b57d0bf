-- Rows 1 to 8 and 28 of the table of refusals, and the vocabulary check.
use Rattle.std.specs.Prelude.{ℕ, ◌-◌, ◌%◌, ◌≡◌, Bool, not, ◌&&◌, ◌||◌, List, [], ◌∷◌, length, ltb, leb, eqb}
use Rattle.records.specs.Finite.{any_below}
use Rattle.records.specs.Outcome.{Outcome, Check, accepted, pass, ◌then◌, require, in_rows, in_turn}
use Rattle.records.specs.Format.{record_at, count, first_statement, role_count, edition, atoms_held}
use Rattle.records.specs.Kinds.{is_term, is_statement, sorts_of, kinds}
use Rattle.records.specs.declared.kinds.Sorts.{Sorts}
use Rattle.records.specs.Atoms.{atoms}
use Rattle.records.specs.declared.fields.Record.{Record}
use Rattle.records.specs.declared.kinds.Sort.{Sort}
use Rattle.records.specs.declared.kinds.Sort.TheVariants.{Spare, Term, Role, Label, Link}

-- Row 1: "under 8, over 4,096 or no multiple of 8"
abbrev pub length_fits : List ℕ → Bool
length_fits v = leb 8 (length v) && (leb (length v) 4096 && eqb (length v % 8) 0)

abbrev pub length_check : List ℕ → Check
length_check v = require (length_fits v) 1 0

-- Row 2: "kind, second byte, role count or next" of the header: "kind 16, second byte 1, .. B the number of roles (0 to 64),
-- next 0". Slip 5 of paper 02: "Refusal 2 admits the new second byte with any next."
abbrev pub header_fits : Record → Bool
header_fits r =
    eqb r.kind 16 && (leb r.b 64 && (eqb r.second 2 || (eqb r.second 1 && eqb r.next 0)))

abbrev pub header_check : List ℕ → Check
header_check v = require (header_fits (record_at v 0)) 2 0

-- Row 3: "kind not 1 to 9, or second byte"; "Other records have second byte 0."
abbrev pub kind_fits : Record → Bool
kind_fits r = leb 1 r.kind && (ltb r.kind (length kinds) && eqb r.second 0)

abbrev pub kind_check : Record → ℕ → Check
kind_check r i = require (kind_fits r) 3 i

-- record j is of this kind, one that has labels, and has this label
abbrev pub named : List ℕ → ℕ → ℕ → ℕ → Bool
named v kind label j = eqb (record_at v j).kind kind && eqb (record_at v j).a label

-- a record of this kind that is earlier than record i has this label
abbrev pub labelled : List ℕ → ℕ → ℕ → ℕ → Bool
labelled v i kind label = any_below (named v kind label) i

-- "A term number in a field is 1 or more, below the record's own number, and names a term."
abbrev pub term_fits : List ℕ → ℕ → ℕ → Bool
term_fits v i x = leb 1 x && (ltb x i && is_term (record_at v x).kind)

-- Row 8 does not apply: it is "not 0 and not a later statement".
abbrev pub link_fits : List ℕ → ℕ → ℕ → Bool
link_fits v i x = eqb x 0 || (ltb i x && (ltb x (count v) && is_statement (record_at v x).kind))

-- Whether x may stand in a field of record i that holds this sort. A label is a name's, and no "label of an earlier name".
abbrev pub sort_fits : List ℕ → ℕ → Sort → ℕ → Bool
sort_fits v i Spare x = eqb x 0
sort_fits v i Term x = term_fits v i x
sort_fits v i Role x = ltb x (role_count v)
sort_fits v i Label x = not (labelled v i 3 x)
sort_fits v i Link x = link_fits v i x

-- The row that speaks of a field of this sort: 4 "unused field not zero", 5 "term number", 6 "role not below the count",
-- 7 "label of an earlier name", 8 "not 0 and not a later statement".
abbrev pub row : Sort → ℕ
row Spare = 4
row Term = 5
row Role = 6
row Label = 7
row Link = 8

-- Row n has nothing against x in a field of record i that holds this sort.
abbrev pub clear : List ℕ → ℕ → ℕ → Sort → ℕ → Bool
clear v i n sort x = not (eqb (row sort) n) || sort_fits v i sort x

abbrev pub row_fits : List ℕ → ℕ → ℕ → Sorts → Record → Bool
row_fits v i n s r = clear v i n s.a r.a && (clear v i n s.b r.b && clear v i n s.next r.next)

abbrev pub row_check : List ℕ → ℕ → ℕ → Sorts → Record → Check
row_check v i n s r = require (row_fits v i n s r) n i

-- The rows of fields: those that the table has at "each record in turn" behind row 3, in its order.
abbrev pub field_rows : List ℕ
field_rows = 4 ∷ 5 ∷ 6 ∷ 7 ∷ []

-- Rows 4 to 7, at one record
abbrev pub rows_check : List ℕ → ℕ → Sorts → Record → Check
rows_check v i s r = in_rows (λ n. row_check v i n s r) field_rows

-- Rows 3 to 7
abbrev pub fields_check : List ℕ → ℕ → Record → Check
fields_check v i r = kind_check r i then rows_check v i (sorts_of r.kind) r

unfoldable pub record_check : List ℕ → ℕ → Check
record_check v i = fields_check v i (record_at v i)

-- Row 8, "not 0 and not a later statement": "Header A, then each statement's next"; "A statement off the chain is checked"
abbrev pub first_statement_check : List ℕ → Check
first_statement_check v = require (link_fits v 0 (first_statement v)) 8 0

abbrev pub next_fits : List ℕ → ℕ → Bool
next_fits v i = not (is_statement (record_at v i).kind) || link_fits v i (record_at v i).next

unfoldable pub link_check : List ℕ → ℕ → Check
link_check v i = require (next_fits v i) 8 i

abbrev pub links_check : List ℕ → Check
links_check v = first_statement_check v then in_turn (link_check v) 1 (count v - 1)

-- Rows 1 to 8: row 1, row 2, rows 3 to 7 at "each record in turn", row 8.
unfoldable pub records_check : List ℕ → Check
records_check v =
    length_check v
    then header_check v
    then in_turn (record_check v) 1 (count v - 1)
    then links_check v

-- What later rows may ask of a vocabulary: rows 1 to 8 have nothing against it.
abbrev pub IsWellFormed : List ℕ → Type 0
IsWellFormed v = records_check v ≡ pass

-- Row 28, slip 5 of paper 02: "after 8, when an edition 2 header holds a wrong k, place the true k"
abbrev pub held_fits : List ℕ → Bool
held_fits v = not (eqb (edition v) 2) || eqb (atoms_held v) (atoms v)

abbrev pub held_check : List ℕ → Check
held_check v = require (held_fits v) 28 (atoms v)

-- All rows of the vocabulary check: 28 "and later refusals of the vocabulary check count among 1 to 8 wherever these are named".
unfoldable pub vocabulary_rows : List ℕ → Check
vocabulary_rows v = records_check v then held_check v

-- The vocabulary check "answers the number of records, header included".
unfoldable pub vocabulary_check : List ℕ → Outcome ℕ
vocabulary_check v = vocabulary_rows v then accepted (count v)

-- "A vocabulary is accepted when no refusal of the vocabulary check applies to it".
abbrev pub IsAccepted : List ℕ → Type 0
IsAccepted v = vocabulary_check v ≡ accepted (count v)
