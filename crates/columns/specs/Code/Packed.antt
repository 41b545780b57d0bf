-- A literal about numbers as one number, and the columns of a record by its group of kinds.
use Rattle.std.specs.Prelude.{ℕ, ◌+◌, ◌*◌, ◌^◌, Bool, not, List, [], ◌∷◌, map}
use Rattle.records.specs.Finite.{digit}
use Rattle.columns.specs.Literals.{Literal, concept, role, substitute}
use Rattle.columns.specs.Columns.{x, y, fx, Column, arguments, joined, not_joined}

-- Predicates, terms of the vocabulary and roles, have 9 bits.
abbrev pub predicate_limit : ℕ
predicate_limit = 512

-- The numbers of terms have 20 bits, so that a literal has room for two.
abbrev pub term_limit : ℕ
term_limit = 2 ^ 20

-- Bit 0 the sign, then the predicate (odd for a term, even for a role), 20 bits for each argument; never 0.
abbrev pub packed : Literal ℕ → ℕ
packed (concept s i t) = digit s + 2 * (2 * i + 1) + 2 ^ 12 * t
packed (role s r t u) = digit s + 2 * (2 * r + 2) + 2 ^ 12 * t + 2 ^ 32 * u

-- A column's literals where its arguments are numbers, a being 0.
abbrev pub packed_at : ℕ → ℕ → ℕ → Column → List ℕ
packed_at nx ny nf c = map (λ l. packed (substitute (arguments nx ny nf 0) l)) c

-- Kinds that differ in signs alone have their columns in one form: top and bottom, and and or, some and all.
abbrev pub constant_group : Bool → ℕ → List Column
constant_group s i = (concept s i x ∷ []) ∷ []

abbrev pub junction_group : Bool → ℕ → ℕ → ℕ → List Column
junction_group s i j k =
    (concept s i x ∷ concept (not s) j x ∷ [])
    ∷ (concept s i x ∷ concept (not s) k x ∷ [])
    ∷ (concept (not s) i x ∷ concept s j x ∷ concept s k x ∷ [])
    ∷ []

abbrev pub restriction_group : Bool → ℕ → ℕ → ℕ → List Column
restriction_group s i r j =
    (concept s i x ∷ not_joined r x fx ∷ [])
    ∷ (concept s i x ∷ concept (not s) j fx ∷ [])
    ∷ (concept (not s) i x ∷ joined r x y ∷ concept s j y ∷ [])
    ∷ []
