-- The list of the restrictions, the records of kinds 7 and 8.
--   restriction-sound                     its entries are restrictions
--   restrictions-few, width-bound         there are no more of them than atoms
--   restrictions_intro, restrictions_at   a test of every record, at the restrictions
-- Assumes nothing.
use Prim.Native.Nat.{ℕ, ◌≤◌, ◌<◌}
use native.Mathlib.Omega.{arith}
use mathlib.Core.Path.{◌≡◌, refl, subst}
use mathlib.Core.Bool.{Bool, true, false}
use mathlib.Core.List.{List}
use Rattle.records.specs.Format.{record_at, count}
use Rattle.records.specs.Kinds.{are_atoms, are_restrictions, is_restriction}
use Rattle.records.specs.declared.kinds.Class.{Class}
use Rattle.records.specs.declared.kinds.Class.TheVariants.{Silent, Connective, Name, Restriction, Statement}
use Rattle.records.specs.Atoms.{atoms, rank}
use Rattle.records.specs.Finite.{digit, all_below}
use Rattle.types.specs.Code.Words.{width, restriction}
use Rattle.records.proofs.Laws.Below.{all_intro, all_at}
use Rattle.records.proofs.Laws.Listing.{entries, entry, entry-sound, entry_found}
use Rattle.records.proofs.Theorems.Ranks.{class-few}

restricts_atom : (c : Class) → digit (are_restrictions c) ≤ digit (are_atoms c)
restricts_atom Silent = omega arith
restricts_atom Connective = omega arith
restricts_atom Name = omega arith
restricts_atom Restriction = omega arith
restricts_atom Statement = omega arith

-- Whether record i is a restriction; it is one before n.
abbrev pub restricts : List ℕ → ℕ → Bool
restricts v i = is_restriction (record_at v i).kind

pub record Restricts (v : List ℕ) (n i : ℕ) : Type 0 where
  pub before : i < n
  pub restricts : restricts v i ≡ true

module _ (v : List ℕ) where
  pub restriction-sound : (n m : ℕ) → m < entries (restricts v) n → Restricts v n (entry (restricts v) n m)
  restriction-sound n m h =
      let e = entry-sound (restricts v) n m h in record { before = e.before; restricts = e.passes }

  pub restrictions-few : (n : ℕ) → entries (restricts v) n ≤ rank v n
  restrictions-few n = class-few are_restrictions restricts_atom v n

  pub width-bound : width v ≤ atoms v
  width-bound = restrictions-few (count v)

  -- A test of every record that holds where there is no restriction is a test of every restriction.
  pub restrictions_intro : (test : ℕ → Bool) → ((i : ℕ) → restricts v i ≡ false → test i ≡ true)
      → ((m : ℕ) → m < width v → test (restriction v m) ≡ true) → all_below test (count v) ≡ true
  restrictions_intro test other each = all_intro test (count v) (λ i l. at i l (restricts v i) refl)
    where
      at : (i : ℕ) → i < count v → (b : Bool) → restricts v i ≡ b → test i ≡ true
      at i l true q =
          let p = entry_found (restricts v) (count v) i l q in
          subst (λ (k : ℕ). test k ≡ true) p.2 (each p.0 p.1)
      at i l false q = other i q

  pub restrictions_at : (test : ℕ → Bool) → all_below test (count v) ≡ true → (m : ℕ) → m < width v
      → test (restriction v m) ≡ true
  restrictions_at test e m h = all_at test (count v) e (restriction v m) (restriction-sound (count v) m h).before
