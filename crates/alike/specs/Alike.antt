-- When two vocabularies look alike.
use Rattle.std.specs.Prelude.{ℕ, ◌≡◌, true, List}
use Rattle.records.specs.Format.{record_at, count}
use Rattle.records.specs.Kinds.{construct_of}
use Rattle.records.specs.Chain.{in_force}
use Rattle.columns.specs.Columns.{states}

-- Two vocabularies look alike to types, taxonomies, columns and scripts: they have as many records, of the same kinds, the same
-- of them are in force, and what a record says, where it may have columns (a term always, a statement in force), is the same.
-- So labels may differ, and so may what a statement says that is not in force.
pub record Alike (v w : List ℕ) : Type 0 where
  pub counts : count v ≡ count w
  pub kinds : (i : ℕ) → (record_at v i).kind ≡ (record_at w i).kind
  pub forces : (i : ℕ) → in_force v i ≡ in_force w i
  pub says : (i : ℕ) → states v i ≡ true → construct_of (record_at v i) ≡ construct_of (record_at w i)
