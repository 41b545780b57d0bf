-- The names as the code lists them.
use Rattle.std.specs.Prelude.{ℕ, ◌<◌, ◌≡◌, List, get_or}
use Rattle.records.specs.Atoms.{rank}
use Rattle.taxonomy.specs.Taxonomy.{name_count, name_at}
use Rattle.taxonomy.specs.declared.names.Names.{Names}

-- The names, each by its number among the atoms; that all entries are such numbers, the type says.
pub record NamesListed (v : List ℕ) (names : Names) : Type 0 where
  pub all : names.count ≡ name_count v
  pub atom_at_lem : (m : ℕ) → m < name_count v → get_or names.atoms m 0 ≡ rank v (name_at v m)
