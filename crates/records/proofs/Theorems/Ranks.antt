-- Atoms are numbered in record order.
--   rank_turn, rank_cong              atoms counted, one record further; they are told by the kinds
--   rank_mono, rank-next, rank_same   a later atom has a greater number
--   rank_below, rank-bound            an atom's number is below their count, and no more than its record's
--   class-few, names-few              records of a class of atoms, as names are, are no more than the atoms
--   name_atom                         a name is an atom
-- Assumes nothing.
use Prim.Native.Nat.{ℕ, zero, suc, ◌+◌, ◌≤◌, ◌<◌}
use native.Mathlib.Omega.{arith}
use native.Mathlib.Decide.{ℕ_discrete, dec_lt}
use native.Mathlib.Numerals.{add-one}
use mathlib.Core.Path.{◌≡◌, refl}
use mathlib.Core.Bool.{Bool, true}
use mathlib.Core.List.{List}
use Rattle.records.specs.Format.{record_at, count}
use Rattle.records.specs.Kinds.{are_atoms, are_names, kind_of}
use Rattle.records.specs.Kinds.{is_atom, is_name}
use Rattle.records.specs.Finite.{digit}
use Rattle.records.specs.Atoms.{rank, atoms}
use Rattle.records.proofs.Laws.Bits.{digit-small}
use Rattle.records.proofs.Laws.Tests.{clash}
use Rattle.records.proofs.Laws.Listing.{entries, entries_none, entries-length}
use Rattle.records.specs.declared.kinds.Class.{Class}
use Rattle.records.specs.declared.kinds.Class.TheVariants.{Silent, Connective, Name, Restriction, Statement}

pub rank_turn : (v : List ℕ) (i found : ℕ) (b : Bool) → found ≡ rank v i → is_atom (record_at v i).kind ≡ b
    → found + digit b ≡ rank v (i + 1)
unfolding rank
rank_turn v i found b e q = rw (add-one, e, q)

pub rank_cong : (v w : List ℕ) (n : ℕ) → ((i : ℕ) → i < n → (record_at v i).kind ≡ (record_at w i).kind) → rank v n ≡ rank w n
unfolding rank
rank_cong v w zero same = refl
rank_cong v w (suc n) same = rw (rank_cong v w n (λ i h. same i (omega arith)), same n (omega arith))

module _ (v : List ℕ) where
  pub rank_mono : (i j : ℕ) → i ≤ j → rank v i ≤ rank v j
  unfolding rank
  rank_mono i zero h = let e : i ≡ 0 = omega arith in rw e (omega arith)
  rank_mono i (suc j) h = at (ℕ_discrete i (suc j)) (rank_mono i j)
    where
      at : Dec (i ≡ suc j) → (i ≤ j → rank v i ≤ rank v j) → rank v i ≤ rank v j + digit (is_atom (record_at v j).kind)
      at (yes e) r = rw e (omega arith)
      at (no n) r = omega (arith, r (omega arith))

  pub rank-next : (i : ℕ) → is_atom (record_at v i).kind ≡ true → rank v (suc i) ≡ suc (rank v i)
  unfolding rank
  rank-next i e = rw e (omega arith)

  -- a later atom has a greater number
  rank_less : (i j : ℕ) → i < j → is_atom (record_at v i).kind ≡ true → rank v i < rank v j
  rank_less i j h e = omega (arith, rank-next i e, rank_mono (suc i) j h)

  pub rank_same : (i j : ℕ) → is_atom (record_at v i).kind ≡ true → is_atom (record_at v j).kind ≡ true
      → rank v i ≡ rank v j → i ≡ j
  rank_same i j a b e = at (dec_lt i j) (dec_lt j i)
    where
      at : Dec (i < j) → Dec (j < i) → i ≡ j
      at (yes h) d = absurd (omega (arith, rank_less i j h a))
      at (no n) (yes h) = absurd (omega (arith, rank_less j i h b))
      at (no n) (no m) = omega arith

  pub rank_below : (i : ℕ) → i < count v → is_atom (record_at v i).kind ≡ true → rank v i < atoms v
  rank_below i h e = rank_less i (count v) h e

-- No record counts as two atoms.
pub rank-bound : (v : List ℕ) (i : ℕ) → rank v i ≤ i
unfolding rank
rank-bound v zero = omega arith
rank-bound v (suc i) = omega (arith, rank-bound v i, digit-small (is_atom (record_at v i).kind))

-- Records of a class, all of them atoms, are no more than the atoms.
pub class-few : (test : Class → Bool) → ((c : Class) → digit (test c) ≤ digit (are_atoms c)) → (v : List ℕ) (n : ℕ)
    → entries (λ i. test (kind_of (record_at v i).kind).class) n ≤ rank v n
unfolding rank
class-few test each v zero = omega (arith, entries_none (λ i. test (kind_of (record_at v i).kind).class))
class-few test each v (suc n) =
    omega (
      arith,
      class-few test each v n,
      entries-length (λ i. test (kind_of (record_at v i).kind).class) n,
      each (kind_of (record_at v n).kind).class,
    )

names-atoms : (c : Class) → digit (are_names c) ≤ digit (are_atoms c)
names-atoms Silent = omega arith
names-atoms Connective = omega arith
names-atoms Name = omega arith
names-atoms Restriction = omega arith
names-atoms Statement = omega arith

pub names-few : (v : List ℕ) (n : ℕ) → entries (λ i. is_name (record_at v i).kind) n ≤ rank v n
names-few = class-few are_names names-atoms

pub name_atom : (k : ℕ) → is_name k ≡ true → is_atom k ≡ true
name_atom k = at (kind_of k).class
  where
    at : (c : Class) → are_names c ≡ true → are_atoms c ≡ true
    at Silent e = absurd (clash (cc))
    at Connective e = absurd (clash (cc))
    at Name e = e
    at Restriction e = absurd (clash (cc))
    at Statement e = absurd (clash (cc))
