-- The bytes of a vocabulary.
use Rattle.std.specs.Prelude.{ℕ, ◌+◌, ◌*◌, ◌/◌, ◌%◌, List, [], ◌∷◌, ◌++◌, length, get_or, take, drop}
use Rattle.records.specs.declared.fields.Record.{Record}

-- Figures, under the names by which code and laws cite them. Rows 1 and 2 (Check) say the numbers themselves, so that with
-- another number here no proof of these rows stands.

-- "A record is 8 bytes"
abbrev pub record_size : ℕ
record_size = 8

-- "At most 512 records, header included."
abbrev pub record_limit : ℕ
record_limit = 512

-- "the number of roles (0 to 64)"
abbrev pub role_limit : ℕ
role_limit = 64

-- "A, B, next (two bytes each)"
abbrev pub word_size : ℕ
word_size = 2

-- "Numbers in files are 16-bit, low byte first."
abbrev pub word_at : List ℕ → ℕ → ℕ
word_at s i = get_or s i 0 + 256 * get_or s (i + 1) 0

-- "A record is 8 bytes: kind, a second byte, A, B, next (two bytes each)."
abbrev pub record_of : List ℕ → Record
record_of s = record { kind = get_or s 0 0; second = get_or s 1 0; a = word_at s 2; b = word_at s 4; next = word_at s 6 }

-- where A and next stand in a record
abbrev pub place_of_a : ℕ
place_of_a = 2

abbrev pub place_of_next : ℕ
place_of_next = 6

-- The same the other way: the bytes of a number, and of a record.
abbrev pub word_bytes : ℕ → List ℕ
word_bytes x = x % 256 ∷ x / 256 ∷ []

abbrev pub record_bytes : Record → List ℕ
record_bytes r = r.kind ∷ r.second ∷ word_bytes r.a ++ word_bytes r.b ++ word_bytes r.next

-- the bytes of record i
abbrev pub part_at : List ℕ → ℕ → List ℕ
part_at v i = take record_size (drop (record_size * i) v)

unfoldable pub record_at : List ℕ → ℕ → Record
record_at v i = record_of (part_at v i)

-- the number of records, header included
abbrev pub count : List ℕ → ℕ
count v = length v / record_size

-- "Record 0 is the header: .. A the first statement or 0, B the number of roles"
abbrev pub first_statement : List ℕ → ℕ
first_statement v = (record_at v 0).a

abbrev pub role_count : List ℕ → ℕ
role_count v = (record_at v 0).b

-- Slip 5 of paper 02: "Header edition 2 (second byte 2) holds k in next."
abbrev pub edition : List ℕ → ℕ
edition v = (record_at v 0).second

abbrev pub atoms_held : List ℕ → ℕ
atoms_held v = (record_at v 0).next
