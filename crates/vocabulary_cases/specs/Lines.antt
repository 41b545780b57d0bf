-- What the program reads of a case, and the line that it writes.
use Rattle.std.specs.Prelude.{ℕ, ◌+◌, ◌^◌, ◌==◌, ◌<◌, ◌≤◌, List, [], ◌∷◌, ◌++◌, length, if◌then◌else◌}
use Rattle.records.specs.Outcome.{Outcome, accepted, refused}
use Rattle.records.specs.Call.{record_call, record_part}
use Rattle.records.specs.Check.{vocabulary_check}
use Rattle.lent.specs.Told.{pair_bytes, quad_bytes, number_text, refusal_text}

pub record Case : Type 0 where
  pub number : ℕ
  pub vocabulary : List ℕ

-- there is room for the vocabulary, and four bytes hold the number
abbrev pub Fits : Case → Type 0
Fits c = (length c.vocabulary ≤ 8192) × (c.number < 2 ^ 32)

-- the length of the vocabulary, the number, and the vocabulary
abbrev pub case_bytes : Case → List ℕ
case_bytes c = pair_bytes (length c.vocabulary) ++ quad_bytes c.number ++ c.vocabulary

-- 0 and what is answered, or the refusal and its place, and the byte that follows these
abbrev pub answer_text : Outcome ℕ → ℕ → List ℕ
answer_text (accepted answer) after = number_text 0 32 ++ number_text answer 32
answer_text (refused number place) after = refusal_text number place after

-- 0 and the number of records, or the refusal and its place
abbrev pub counted_text : Outcome ℕ → List ℕ
counted_text outcome = answer_text outcome 32

-- 0 and the offset, or the refusal and its place, which end the line
abbrev pub located_text : Outcome ℕ → List ℕ
located_text outcome = answer_text outcome 10

-- what follows a byte: after the last that is left a line end, and else a space
abbrev pub byte_after : ℕ → ℕ
byte_after left = if left == 1 then 10 else 32

abbrev pub bytes_text : List ℕ → List ℕ
bytes_text [] = []
bytes_text (x ∷ xs) = number_text x (byte_after (length xs + 1)) ++ bytes_text xs

-- the answer of the vocabulary check, the answer of the record call, and the record's bytes
abbrev pub line_text : List ℕ → ℕ → List ℕ
line_text v number = counted_text (vocabulary_check v) ++ located_text (record_call v number) ++ bytes_text (record_part v number)

abbrev pub case_line : Case → List ℕ
case_line c = line_text c.vocabulary c.number
