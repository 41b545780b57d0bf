-- The names of a vocabulary are its records of kind 3, in record order.
--   named                     whether a record is a name
--   name-is, name_found       each name listed is one, and each one is listed
--   names_rise                later names have greater records
--   names-within              there are no more of them than atoms, so their pairs have a byte each
--   NameFacts, name_facts     a name is an atom, whose number is below their count
-- Assumes nothing.
use Prim.Native.Nat.{ℕ, ◌*◌, ◌≤◌, ◌<◌}
use native.Mathlib.Omega.{arith}
use native.Mathlib.Nat.{mul-le-mul}
use mathlib.Core.Path.{◌≡◌, sym, ◌∙◌}
use mathlib.Core.Bool.{Bool, true}
use mathlib.Core.List.{List}
use borrow.Author.Tests.{eqb-true, eq-eqb}
use Rattle.records.specs.Format.{record_at, count}
use Rattle.records.specs.Kinds.{is_atom, is_name}
use Rattle.records.specs.Atoms.{rank, atoms}
use Rattle.records.proofs.Laws.Listing.{entry-sound, entry_found, entry_rises}
use Rattle.records.proofs.Laws.Ranges.{name_range}
use Rattle.records.proofs.Theorems.Ranks.{names-few, name_atom, rank_below}
use Rattle.types.specs.Comparison.{atom_limit}
use Rattle.taxonomy.specs.Nearest.{NameOf}
use Rattle.taxonomy.specs.Taxonomy.{name_count, name_at, taxonomy_bytes}

-- Whether record i is a name.
abbrev pub named : List ℕ → ℕ → Bool
named v i = is_name (record_at v i).kind

module _ (v : List ℕ) where
  pub name-is : (m : ℕ) → m < name_count v → NameOf v (name_at v m)
  name-is m h =
      let entered = entry-sound (named v) (count v) m h in
      let a = name_at v m in
      (entered.before, eqb-true (record_at v a).kind 3 (sym (name_range (record_at v a).kind) ∙ entered.passes))

  pub name_found : (a : ℕ) → NameOf v a → (m : ℕ) × (m < name_count v) × (name_at v m ≡ a)
  name_found a is =
      entry_found (named v) (count v) a is.0
      (name_range (record_at v a).kind ∙ eq-eqb (record_at v a).kind 3 is.1)

  pub names_rise : (l m : ℕ) → l < m → m < name_count v → name_at v l < name_at v m
  names_rise = entry_rises (named v) (count v)

  module _ (few : atoms v ≤ atom_limit) where
    pub names-within : name_count v * name_count v ≤ taxonomy_bytes
    names-within =
        let n : name_count v ≤ atom_limit = omega (arith, names-few v (count v)) in
        mul-le-mul n n

-- What is known of name m.
pub record NameFacts (v : List ℕ) (m : ℕ) : Type 0 where
  pub atom : is_atom (record_at v (name_at v m)).kind ≡ true
  pub below : rank v (name_at v m) < atoms v

pub name_facts : (v : List ℕ) (m : ℕ) → m < name_count v → NameFacts v m
name_facts v m h =
    let e = entry-sound (named v) (count v) m h in
    let atom = name_atom (record_at v (name_at v m)).kind e.passes in
    record { atom = atom; below = rank_below v (name_at v m) e.before atom }
