-- What the bits of an answer say: the numbers of Packed can be taken apart again, as include/judge.h does.
use Rattle.std.specs.Prelude.{ℕ, ◌/◌, ◌%◌, ◌^◌, ◌<◌, ◌≡◌, List, get_or}
use Rattle.records.specs.Outcome.{Outcome, accepted, refused}
use Rattle.records.specs.Check.{vocabulary_check}
use Rattle.records.specs.Call.{record_call}
use Rattle.writer.specs.Additions.{Addition}
use Rattle.writer.specs.Calls.{making, adding, new_length}
use Rattle.types.specs.declared.answers.Counts.{Counts}
use Rattle.types.specs.Comparison.{Verdict, equal, different, comparison}
use Rattle.taxonomy.specs.Taxonomy.{classification}
use Rattle.scripts.specs.Run.{script_check}
use Rattle.judge.specs.Packed.{packed, packed_verdict, packed_counts}

-- Bits 0 to 7 are the refusal's number, which is not 0; bits 8 to 39 its place; other bits are 0.
abbrev pub Refusal : ℕ → ℕ → ℕ → Type 0
Refusal x number place = (x % 256 ≡ number) × (0 < number) × (x / 256 ≡ place) × (place < 2 ^ 32)

-- Bits 0 to 7 are 0, and bits 8 to 39 the value answered; other bits are 0.
abbrev pub Unpacks : ℕ → Outcome ℕ → Type 0
Unpacks x (accepted value) = (x % 256 ≡ 0) × (x / 256 ≡ value) × (value < 2 ^ 32)
Unpacks x (refused number place) = Refusal x number place

-- Bits 0 to 7 are 0; bit 8 is 1 for Different, bits 9 to 24 the element, 25 to 41 the survivors, those above the rounds.
abbrev pub UnpacksVerdict : ℕ → Outcome Verdict → Type 0
UnpacksVerdict x (accepted (equal survivors rounds)) =
    (x % 256 ≡ 0) × (x / 2 ^ 8 % 2 ≡ 0) × (x / 2 ^ 9 % 2 ^ 16 ≡ 0) × (x / 2 ^ 25 % 2 ^ 17 ≡ survivors) × (x / 2 ^ 42 ≡ rounds)
UnpacksVerdict x (accepted (different element survivors rounds)) =
    (x % 256 ≡ 0) × (x / 2 ^ 8 % 2 ≡ 1) × (x / 2 ^ 9 % 2 ^ 16 ≡ element) × (x / 2 ^ 25 % 2 ^ 17 ≡ survivors)
    × (x / 2 ^ 42 ≡ rounds)
UnpacksVerdict x (refused number place) = Refusal x number place

-- The same with bits 8 to 24 at 0.
abbrev pub UnpacksCounts : ℕ → Outcome Counts → Type 0
UnpacksCounts x (accepted counts) =
    (x % 256 ≡ 0) × (x / 2 ^ 8 % 2 ^ 17 ≡ 0) × (x / 2 ^ 25 % 2 ^ 17 ≡ counts.survivors) × (x / 2 ^ 42 ≡ counts.rounds)
UnpacksCounts x (refused number place) = Refusal x number place

-- The promise: so it is with the answer of every call, for numbers of 32 bits and scripts that are bytes.
pub record TakenApart : Type 0 where
  pub vocabulary : (v : List ℕ) → Unpacks (packed (vocabulary_check v)) (vocabulary_check v)
  pub recording : (v : List ℕ) (number : ℕ) → number < 2 ^ 32 → Unpacks (packed (record_call v number)) (record_call v number)
  pub compares : (v : List ℕ) (a b lent : ℕ) → a < 2 ^ 32 → b < 2 ^ 32
      → UnpacksVerdict (packed_verdict (comparison v a b lent)) (comparison v a b lent)
  pub classifies : (v : List ℕ) (lent room : ℕ)
      → UnpacksCounts (packed_counts (classification v lent room)) (classification v lent room)
  pub checks : (v s : List ℕ) → ((i : ℕ) → get_or s i 0 < 256) → Unpacks (packed (script_check v s)) (script_check v s)
  pub makes : (size roles : ℕ) → Unpacks (packed (new_length (making size roles))) (new_length (making size roles))
  pub adds : (buffer : List ℕ) (used : ℕ) (x : Addition)
      → Unpacks (packed (new_length (adding buffer used x))) (new_length (adding buffer used x))
