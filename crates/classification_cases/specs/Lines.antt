-- What the program reads of a case, and the line that it writes.
use Rattle.std.specs.Prelude.{ℕ, ◌-◌, ◌≤◌, Bool, true, false, List, [], ◌∷◌, ◌++◌, length, take, if◌then◌else◌}
use lib.Chars.{codes}
use Rattle.records.specs.Outcome.{Outcome, accepted, refused}
use Rattle.types.specs.declared.answers.Counts.{Counts}
use Rattle.taxonomy.specs.Taxonomy.{classification, first_after, second_after}
use Rattle.lent.specs.Told.{pair_bytes, number_text, used_len, filled, written_text, sums_text}

pub record Case : Type 0 where
  pub first : ℕ
  pub second : ℕ
  pub seed : ℕ
  pub vocabulary : List ℕ

-- there is room for the vocabulary, and for what is lent for the survivors and for the taxonomy
abbrev pub Fits : Case → Type 0
Fits c = (length c.vocabulary ≤ 8192) × (c.first ≤ 1024) × (c.second ≤ 1024)

-- the length of the vocabulary, the numbers of bytes lent for the survivors and for the taxonomy, their seed, and the vocabulary
abbrev pub case_bytes : Case → List ℕ
case_bytes c = pair_bytes (length c.vocabulary) ++ pair_bytes c.first ++ pair_bytes c.second ++ c.seed ∷ c.vocabulary

-- the answer's word and its numbers
abbrev pub answer_text : Outcome Counts → List ℕ
answer_text (accepted counts) = codes "counts " ++ number_text counts.survivors 32 ++ number_text counts.rounds 32
answer_text (refused number place) = codes "refused " ++ number_text number 32 ++ number_text place 32

abbrev pub is_refusal : Outcome Counts → Bool
is_refusal (accepted counts) = false
is_refusal (refused number place) = true

-- the survivors and the taxonomy as they stand in the lent bytes, but after a refusal, and two sums over all bytes of each
abbrev pub lent_text : Outcome Counts → List ℕ → List ℕ → List ℕ
lent_text answer survivors taxonomy =
    (if is_refusal answer then [] else written_text survivors (used_len (take 512 survivors))
    ++ written_text taxonomy (used_len (take 144 taxonomy)))
    ++ sums_text survivors 32 ++ sums_text taxonomy 10

-- the answer, and what then stands in the lent bytes, by what they held before
abbrev pub line_text : List ℕ → List ℕ → List ℕ → List ℕ
line_text v survivors taxonomy = answer_text (classification v (length survivors) (length taxonomy))
    ++ lent_text (classification v (length survivors) (length taxonomy)) (first_after v survivors taxonomy)
    (second_after v survivors taxonomy)

abbrev pub case_line : Case → List ℕ
case_line c = line_text c.vocabulary (filled c.first c.seed) (filled c.second (255 - c.seed))
