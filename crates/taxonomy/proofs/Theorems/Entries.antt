-- What the entries of the taxonomy say, and where they stand.
--   entry-equal, equal-entry       an entry is 2 exactly if the two are always equal
--   entry_nearest, nearest_entry   it is 1 exactly if the second is nearest
--   entry_else                     it is 0 otherwise
--   taxonomy-entry                 entry (i, j) of n names is byte i * n + j
--   taxonomy-rest                  the bytes after the entries are 0
--   length-taxonomy                there are 144
-- Assumes nothing.
use Prim.Native.Nat.{ℕ, ◌+◌, ◌*◌, ◌≤◌, ◌<◌}
use native.Mathlib.Omega.{arith}
use mathlib.Core.Path.{◌≡◌, refl, ap, ◌∙◌}
use mathlib.Core.Bool.{Bool, true, false, cond, not, ◌&&◌}
use mathlib.Core.List.{List, ◌++◌}
use lib.Arith.{digits_lt, digits_div, digits_mod}
use lib.ListN.{length, get_or, get_or-append}
use borrow.Author.Tests.{lt-ltb, le-ltb, not-true}
use Rattle.records.specs.Atoms.{atoms}
use Rattle.records.specs.Finite.{digit}
use Rattle.records.proofs.Laws.Tests.{clash, both_left, both_right, both_true, unless_true}
use Rattle.records.proofs.Laws.Sets.{length-table, table_at}
use Rattle.records.proofs.Theorems.Accepted.{AcceptedFacts}
use Rattle.types.specs.Meaning.{AlwaysEqual}
use Rattle.types.specs.Comparison.{atom_limit}
use Rattle.types.proofs.Theorems.Inclusions.{equal_both}
use Rattle.taxonomy.specs.Nearest.{Nearest}
use Rattle.taxonomy.specs.Taxonomy.{name_count, name_at, equivalent, strictly_broader, between, entry, taxonomy_bytes}
use Rattle.taxonomy.specs.Taxonomy.{entry_byte, taxonomy}
use Rattle.taxonomy.proofs.Theorems.Names.{name-is, name_found, names-within}
use Rattle.taxonomy.proofs.Theorems.Broader.{Between, equivalent-equal, equal-equivalent}
use Rattle.taxonomy.proofs.Theorems.Broader.{strictly_within, within_strictly, between-name, name-between}

-- 2, 1 or 0 by two tests
marked_two : (e x : Bool) → cond e 2 (digit x) ≡ 2 → e ≡ true
marked_two true x h = refl
marked_two false true h = absurd (omega arith)
marked_two false false h = absurd (omega arith)

marked-one : (e x : Bool) → cond e 2 (digit x) ≡ 1 → x ≡ true
marked-one true x h = absurd (omega arith)
marked-one false true h = refl
marked-one false false h = absurd (omega arith)

module _ (v : List ℕ) (good : AcceptedFacts v) (few : atoms v ≤ atom_limit) (a b : ℕ) where
  -- the test of an entry that is 1
  abbrev closest : Bool
  closest = strictly_broader v a b && not (between v a b)

  closest_nearest : closest ≡ true → Nearest v a b
  closest_nearest h =
      let alone = not-true (between v a b) (both_right (strictly_broader v a b) (not (between v a b)) h) in (
        strictly_within v good few a b (both_left (strictly_broader v a b) (not (between v a b)) h),
        λ c name above below.
            let m = name_found v c name in
            let amid : Between v a b m.0 = record { above = rw m.2 above; below = rw m.2 below } in
            let found = name-between v good few a b m.0 m.1 amid in
            clash (cc),
      )

  nearest_closest : Nearest v a b → closest ≡ true
  nearest_closest near =
      both_true (strictly_broader v a b) (not (between v a b)) (within_strictly v good few a b near.0)
      (ap not (unless_true (between v a b) (λ h.
      let m = between-name v good few a b h in
      near.1 (name_at v m.0) (name-is v m.0 m.1) m.2.above m.2.below)))

  pub entry-equal : entry v a b ≡ 2 → AlwaysEqual v a b
  unfolding entry
  entry-equal h = equivalent-equal v good few a b (marked_two (equivalent v a b) closest h)

  pub equal-entry : AlwaysEqual v a b → entry v a b ≡ 2
  unfolding entry
  equal-entry same = rw (equal-equivalent v good few a b same)

  pub entry_nearest : entry v a b ≡ 1 → Nearest v a b
  unfolding entry
  entry_nearest h = closest_nearest (marked-one (equivalent v a b) closest h)

  unequal : (AlwaysEqual v a b → ⊥) → equivalent v a b ≡ false
  unequal apart = unless_true (equivalent v a b) (λ h. apart (equivalent-equal v good few a b h))

  pub nearest_entry : Nearest v a b → entry v a b ≡ 1
  unfolding entry
  nearest_entry near = rw (unequal (λ same. near.0.1 (equal_both v a b same).1), nearest_closest near)

  pub entry_else : (AlwaysEqual v a b → ⊥) → (Nearest v a b → ⊥) → entry v a b ≡ 0
  unfolding entry
  entry_else apart far = rw (unequal apart, unless_true closest (λ h. far (closest_nearest h)))

module _ (v rest : List ℕ) where
  taxonomy_byte : (n : ℕ) → n < taxonomy_bytes → get_or (taxonomy v ++ rest) n 0 ≡ entry_byte v n
  unfolding taxonomy
  taxonomy_byte n l =
      let long = length-table taxonomy_bytes (entry_byte v) in
      get_or-append (taxonomy v) rest 0 n (omega arith) ∙ table_at taxonomy_bytes (entry_byte v) 0 n l

  pub taxonomy-entry : atoms v ≤ atom_limit → (i j : ℕ) → i < name_count v → j < name_count v
      → get_or (taxonomy v ++ rest) (i * name_count v + j) 0 ≡ entry v (name_at v i) (name_at v j)
  taxonomy-entry few i j h k =
      let n = name_count v in
      let inside : i * n + j < n * n = digits_lt h k in
      taxonomy_byte (i * n + j) (omega (arith, names-within v few))
      ∙ rw (lt-ltb (i * n + j) (n * n) inside, digits_div i k, digits_mod i k)

  pub taxonomy-rest : (n : ℕ) → name_count v * name_count v ≤ n → n < taxonomy_bytes → get_or (taxonomy v ++ rest) n 0 ≡ 0
  taxonomy-rest n h l = taxonomy_byte n l ∙ rw (le-ltb n (name_count v * name_count v) h)

pub length-taxonomy : (v : List ℕ) → length (taxonomy v) ≡ taxonomy_bytes
unfolding taxonomy
length-taxonomy v = length-table taxonomy_bytes (entry_byte v)
