-- The bitmap in which the survivors are written, and the interpretation read back from it.
use Rattle.std.specs.Prelude.{ℕ, ◌+◌, ◌*◌, ◌/◌, ◌%◌, ◌≡◌, Bool, true, List, ◌++◌, get_or, drop}
use Rattle.records.specs.Outcome.{Outcome, accepted, refused}
use Rattle.records.specs.Finite.{table, has, bit, number}
use Rattle.types.specs.Meaning.{Interpretation, Element, Model}
use Rattle.types.specs.Types.{truth, allowed}
use Rattle.types.specs.Survivors.{survivors}
use Rattle.types.specs.Comparison.{bitmap_bytes}

-- "bit t mod 8 of byte t div 8 is 1 for a survivor, in the first 512 bytes, the rest of which are 0"
abbrev pub byte_of : List Bool → ℕ → ℕ
byte_of S n = number 8 (λ j. has S (8 * n + j))

unfoldable pub bitmap : List ℕ → List ℕ
bitmap v = table bitmap_bytes (byte_of (survivors v))

-- The lent bytes after the call: the bitmap "with either answer: .. later bytes keep their content", and "Every refusal ..
-- leaves all lent memory untouched."
abbrev pub written : {A : Type 0} → Outcome A → List ℕ → List ℕ → List ℕ
written (accepted answer) v lent = bitmap v ++ drop bitmap_bytes lent
written (refused n p) v lent = lent

-- "It is read back from these bytes and the vocabulary alone: its elements are the t whose bit is 1 .., a name has those of
-- them at which its atom is true, and a role has the pairs of them allowed for it."
abbrev pub read_back : List ℕ → List ℕ → Interpretation
read_back v bytes =
    record {
      bound = 8 * bitmap_bytes;
      domain = λ t. bit (get_or bytes (t / 8) 0) (t % 8);
      names = λ i t. truth v t i;
      roles = allowed v;
    }

-- The survivors "are the interpretation written": they are the elements of what is read back from these bytes, and where there
-- is one, it is a finite interpretation that satisfies the statements ("with no bit set there is no interpretation").
pub record HoldsSurvivors (v bytes : List ℕ) : Type 0 where
  pub only : (t : ℕ) → Element (read_back v bytes) t → has (survivors v) t ≡ true
  pub every : (t : ℕ) → has (survivors v) t ≡ true → Element (read_back v bytes) t
  pub model : (t : ℕ) → Element (read_back v bytes) t → Model (read_back v bytes) v
