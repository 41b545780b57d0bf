-- The record call.
use Rattle.std.specs.Prelude.{ℕ, ◌+◌, ◌*◌, List, [], take, drop, ltb}
use Rattle.records.specs.Outcome.{Outcome, accepted, refused, ◌then◌, require}
use Rattle.records.specs.Format.{record_size, count}
use Rattle.records.specs.Check.{length_check}

-- Row 9, "Record call, after 1": "number past the end", place the number
unfoldable pub record_call : List ℕ → ℕ → Outcome ℕ
record_call v number = length_check v then require (ltb number (count v)) 9 number then accepted (record_size * number)

-- "The record call hands back the eight bytes as part of the lent vocabulary; refused, an empty part."
abbrev pub part_for : Outcome ℕ → List ℕ → List ℕ
part_for (accepted at) v = take record_size (drop at v)
part_for (refused n p) v = []

abbrev pub record_part : List ℕ → ℕ → List ℕ
record_part v number = part_for (record_call v number) v

-- "as part of the lent vocabulary": where it lies. A reference points to a block of memory and an offset in it.
abbrev pub place_for : Outcome ℕ → ℕ × ℕ → ℕ × ℕ
place_for (accepted at) start = (start.0, at + start.1)
place_for (refused n p) start = start

abbrev pub record_place : List ℕ → ℕ → ℕ × ℕ → ℕ × ℕ
record_place v number start = place_for (record_call v number) start
