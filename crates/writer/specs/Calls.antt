-- The three calls: what they refuse, what they answer, and the buffer after them.
use Rattle.std.specs.Prelude.{ℕ, ◌+◌, Bool, true, ◌&&◌, List, ◌++◌, length, take, drop, ltb, leb}
use Rattle.records.specs.Outcome.{Outcome, Check, accepted, refused, ◌then◌, require}
use Rattle.records.specs.Format.{record_size, record_limit, role_limit, record_bytes, count}
use Rattle.records.specs.Kinds.{is_term}
use Rattle.records.specs.Check.{vocabulary_check}
use Rattle.records.specs.declared.fields.Record.{Record}
use Rattle.writer.specs.Additions.{Addition, term, statement, grown}

-- "In a lent buffer a call makes an empty vocabulary with a role count": the header alone. Slip 5: "The writer makes edition 2".
abbrev pub empty_header : ℕ → Record
empty_header roles = record { kind = 16; second = 2; a = 0; b = roles; next = 0 }

-- "27 .. at .. fewer than 8 free bytes, place .. 0 when an empty one is being made; role counts over 64 then get 2.": the bytes
-- made, in a buffer of this size.
unfoldable pub making : ℕ → ℕ → Outcome (List ℕ)
making size roles =
    require (leb record_size size) 27 0 then require (leb roles role_limit) 2 0 then accepted (record_bytes (empty_header roles))

-- "27 .. at 512 records or fewer than 8 free bytes, place the record count"
abbrev pub room_check : List ℕ → ℕ → Check
room_check v size = require (ltb (count v) record_limit && leb (length v + record_size) size) 27 (count v)

-- "a term, kinds 1 to 8 (else 3)"
abbrev pub is_addable : Addition → Bool
is_addable (term kind a b) = is_term kind
is_addable (statement a b) = true

-- "in additions the bytes in use first meet 1 to 8, ..; then 27, before the new record's own checks". "An added record that the
-- reader would refuse gets the reader's number and place.": those of the vocabulary check of the bytes with the record.
unfoldable pub addition : List ℕ → ℕ → Addition → Outcome (List ℕ)
addition v size x =
    vocabulary_check v
    then room_check v size
    then require (is_addable x) 3 (count v)
    then vocabulary_check (grown v x)
    then accepted (grown v x)

-- "given also the length in use"; "a length past the buffer giving 1"
unfoldable pub adding : List ℕ → ℕ → Addition → Outcome (List ℕ)
adding buffer used x = require (leb used (length buffer)) 1 0 then addition (take used buffer) (length buffer) x

-- "each call answers the new length"
abbrev pub new_length : Outcome (List ℕ) → Outcome ℕ
new_length (accepted w) = accepted (length w)
new_length (refused n p) = refused n p

-- The buffer after the call: the bytes now in use, and what lies behind them as it was; refused, all as it was.
abbrev pub buffer_after : Outcome (List ℕ) → List ℕ → List ℕ
buffer_after (accepted w) buffer = w ++ drop (length w) buffer
buffer_after (refused n p) buffer = buffer
