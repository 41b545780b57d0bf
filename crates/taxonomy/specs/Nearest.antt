-- What the entries of the taxonomy are to say, in every finite interpretation that satisfies the statements.
use Rattle.std.specs.Prelude.{ℕ, ◌<◌, ◌≡◌, List}
use Rattle.records.specs.Format.{record_at, count}
use Rattle.types.specs.Meaning.{AlwaysWithin}

-- A name is a record of kind 3.
abbrev pub NameOf : List ℕ → ℕ → Type 0
NameOf v a = (a < count v) × ((record_at v a).kind ≡ 3)

-- b is "strictly broader" than a: a lies within b in every finite interpretation satisfying the statements, and not the other
-- way round. "Broader too means in every such interpretation."
abbrev pub StrictlyWithin : List ℕ → ℕ → ℕ → Type 0
StrictlyWithin v a b = AlwaysWithin v a b × (AlwaysWithin v b a → ⊥)

-- "strictly broader with no name strictly between"
abbrev pub Nearest : List ℕ → ℕ → ℕ → Type 0
Nearest v a b = StrictlyWithin v a b × ((c : ℕ) → NameOf v c → StrictlyWithin v a c → StrictlyWithin v c b → ⊥)
