-- What the program reads of a case, and the line that it writes.
use Rattle.std.specs.Prelude.{ℕ, ◌^◌, ◌<◌, ◌≤◌, Bool, true, false, List, [], ◌∷◌, ◌++◌, length, take, if◌then◌else◌}
use lib.Chars.{codes}
use Rattle.records.specs.Outcome.{Outcome, accepted, refused}
use Rattle.types.specs.Bitmap.{written}
use Rattle.types.specs.Comparison.{Verdict, equal, different, comparison}
use Rattle.lent.specs.Told.{pair_bytes, quad_bytes, number_text, used_len, filled, written_text, sums_text}

pub record Case : Type 0 where
  pub a : ℕ
  pub b : ℕ
  pub lent : ℕ
  pub seed : ℕ
  pub vocabulary : List ℕ

-- there is room for the vocabulary and for what is lent, and four bytes hold a term's number
abbrev pub Fits : Case → Type 0
Fits c = (length c.vocabulary ≤ 8192) × (c.a < 2 ^ 32) × (c.b < 2 ^ 32) × (c.lent ≤ 1024)

-- the length of the vocabulary, the two terms, the number of bytes lent, their seed, and the vocabulary
abbrev pub case_bytes : Case → List ℕ
case_bytes c = pair_bytes (length c.vocabulary) ++ quad_bytes c.a ++ quad_bytes c.b ++ pair_bytes c.lent ++ c.seed ∷ c.vocabulary

-- the number of survivors and of rounds
abbrev pub counts_text : ℕ → ℕ → List ℕ
counts_text survivors rounds = number_text survivors 32 ++ number_text rounds 32

-- the answer's word and its numbers
abbrev pub answer_text : Outcome Verdict → List ℕ
answer_text (accepted (equal survivors rounds)) = codes "equal " ++ counts_text survivors rounds
answer_text (accepted (different element survivors rounds)) = codes "different " ++ number_text element 32
    ++ counts_text survivors rounds
answer_text (refused number place) = codes "refused " ++ number_text number 32 ++ number_text place 32

abbrev pub is_refusal : Outcome Verdict → Bool
is_refusal (accepted verdict) = false
is_refusal (refused number place) = true

-- the survivors as they stand in the lent bytes, but after a refusal, and two sums over all of these
abbrev pub lent_text : Outcome Verdict → List ℕ → List ℕ
lent_text answer lent = (if is_refusal answer then [] else written_text lent (used_len (take 512 lent))) ++ sums_text lent 10

-- the answer, and what stands in the lent bytes
abbrev pub line_text : List ℕ → ℕ → ℕ → ℕ → ℕ → List ℕ
line_text v a b lent seed = answer_text (comparison v a b lent)
    ++ lent_text (comparison v a b lent) (written (comparison v a b lent) v (filled lent seed))

abbrev pub case_line : Case → List ℕ
case_line c = line_text c.vocabulary c.a c.b c.lent c.seed
