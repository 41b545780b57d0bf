-- What the code computes with: terms as numbers.
use Rattle.std.specs.Prelude.{ℕ, ◌+◌, ◌*◌, ◌/◌, ◌%◌, ◌<◌, ◌≡◌, Bool, true, cond, not, ◌&&◌, List, eqb}
use Rattle.records.specs.Finite.{least}
use Rattle.columns.specs.Literals.{SkolemTerm, constant, apply, same_term}
use Rattle.scripts.specs.Format.{entry_at, entries, is_term, Line, blank, theConstant, applied, step, line_at, term_at}

-- Record n is a term's.
pub record TermRecord (s : List ℕ) (n : ℕ) : Type 0 where
  pub within : n < entries s
  pub term : is_term (entry_at s n).w0 ≡ true

abbrev pub is_record_of : List ℕ → SkolemTerm → ℕ → Bool
is_record_of s t j = is_term (entry_at s j).w0 && same_term (term_at s j) t

-- The first record of the same term. One bound for all n, so that equal terms have one origin.
unfoldable pub origin : List ℕ → ℕ → ℕ
origin s n = least (is_record_of s (term_at s n)) (entries s)

-- Record n is the first of its term.
pub record IsOrigin (s : List ℕ) (n : ℕ) : Type 0 where
  pub term : TermRecord s n
  pub first : origin s n ≡ n

-- Functions are records of a vocabulary.
abbrev pub function_limit : ℕ
function_limit = 512

-- The function below function_limit, the origin of the inner term above it.
abbrev pub code_of : ℕ → ℕ → ℕ
code_of f t = f + function_limit * t

-- The code of what a record says; 0 is the constant.
abbrev pub line_code : List ℕ → Line → ℕ
line_code s blank = 0
line_code s theConstant = 0
line_code s (applied f t) = code_of f (origin s t)
line_code s (step t) = 0

abbrev pub code_at : List ℕ → ℕ → ℕ
code_at s n = line_code s (line_at s n)

-- The term that a code stands for.
unfoldable pub code_term : List ℕ → ℕ → SkolemTerm
code_term s c = cond (eqb (c % function_limit) 0) constant (apply (c % function_limit) (term_at s (c / function_limit)))

-- Whether two literals' numbers differ in the sign alone.
abbrev pub opposed : ℕ → ℕ → Bool
opposed l m = eqb (l / 2) (m / 2) && not (eqb l m)
