-- What the program reads of a case, and the line that it writes.
use Rattle.std.specs.Prelude.{ℕ, ◌<◌, ◌≤◌, List, ◌++◌, length}
use lib.Chars.{codes}
use Rattle.records.specs.Outcome.{Outcome, accepted, refused}
use Rattle.scripts.specs.Run.{script_check}
use Rattle.lent.specs.Told.{pair_bytes, number_text}

pub record Case : Type 0 where
  pub vocabulary : List ℕ
  pub script : List ℕ

-- there is room for the vocabulary, and two bytes hold the length of the script
abbrev pub Fits : Case → Type 0
Fits c = (length c.vocabulary ≤ 8192) × (length c.script < 65536)

-- the length of the vocabulary, the length of the script, the vocabulary, and the script
abbrev pub case_bytes : Case → List ℕ
case_bytes c = pair_bytes (length c.vocabulary) ++ pair_bytes (length c.script) ++ c.vocabulary ++ c.script

-- the answer's word and its numbers
abbrev pub answer_text : Outcome ℕ → List ℕ
answer_text (accepted steps) = codes "accepted " ++ number_text steps 10
answer_text (refused number place) = codes "refused " ++ number_text number 32 ++ number_text place 10

-- the line of a vocabulary and a script
abbrev pub line_text : List ℕ → List ℕ → List ℕ
line_text v s = answer_text (script_check v s)

abbrev pub case_line : Case → List ℕ
case_line c = line_text c.vocabulary c.script
