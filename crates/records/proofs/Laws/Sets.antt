-- Tables, and sets of numbers as tables.
--   length-table, table_at, table_past   a table's entries
--   table_cong, table_last               tables of the same values; one with an entry more at its end
--   has-inside                           a member is in the table
--   members-bound, members-within        how many are in a set, and in one within it
--   members_less                         a set within another that misses one
--   members-zero, members-none           no members: nothing is in it, and back
--   members-same                         tables of the same set
--   members_out                          one member taken out
-- Assumes nothing.
use Prim.Native.Nat.{ℕ, zero, suc, ◌+◌, ◌≤◌, ◌<◌}
use native.Mathlib.Omega.{arith}
use mathlib.Core.Path.{◌≡◌, refl, sym, ap}
use mathlib.Core.Bool.{Bool, true, false}
use mathlib.Core.List.{List, [], ◌∷◌, ◌++◌}
use lib.ListN.{length, get_or, set}
use Rattle.records.proofs.Laws.Tests.{clash}
use Rattle.records.specs.Finite.{digit, table, has, members}

module _ {A : Type 0} where
  pub length-table : (n : ℕ) (f : ℕ → A) → length (table n f) ≡ n
  unfolding table
  length-table zero f = refl
  length-table (suc n) f = ap (λ (x : ℕ). suc x) (length-table n (λ i. f (suc i)))

  pub table_at : (n : ℕ) (f : ℕ → A) (d : A) (i : ℕ) → i < n → get_or (table n f) i d ≡ f i
  unfolding table
  table_at zero f d i h = absurd (omega arith)
  table_at (suc n) f d zero h = refl
  table_at (suc n) f d (suc i) h = table_at n (λ j. f (suc j)) d i (omega arith)

  pub table_past : (n : ℕ) (f : ℕ → A) (d : A) (i : ℕ) → n ≤ i → get_or (table n f) i d ≡ d
  unfolding table
  table_past zero f d i h = refl
  table_past (suc n) f d zero h = absurd (omega arith)
  table_past (suc n) f d (suc i) h = table_past n (λ j. f (suc j)) d i (omega arith)

  pub table_last : (n : ℕ) (f : ℕ → A) → table (suc n) f ≡ table n f ++ (f n ∷ [])
  unfolding table
  table_last zero f = refl
  table_last (suc n) f = ap (λ (l : List A). f 0 ∷ l) (table_last n (λ i. f (suc i)))

  pub table_cong : (n : ℕ) (f g : ℕ → A) → ((i : ℕ) → i < n → f i ≡ g i) → table n f ≡ table n g
  unfolding table
  table_cong zero f g h = refl
  table_cong (suc n) f g h =
      rw (h 0 (omega arith)) (ap (λ (l : List A). g 0 ∷ l)
      (table_cong n (λ i. f (suc i)) (λ i. g (suc i)) (λ i l. h (suc i) (omega arith))))

-- Within: each number of S is in R.
abbrev pub Within : List Bool → List Bool → Type 0
Within S R = (t : ℕ) → has S t ≡ true → has R t ≡ true

-- a member is an entry of the table
pub has-inside : (S : List Bool) (t : ℕ) → has S t ≡ true → t < length S
has-inside [] t h = absurd (clash (cc))
has-inside (b ∷ S) zero h = omega arith
has-inside (b ∷ S) (suc t) h = omega (arith, has-inside S t h)

digit-bound : (b : Bool) → digit b ≤ 1
digit-bound true = omega arith
digit-bound false = omega arith

pub members-bound : (S : List Bool) → members S ≤ length S
unfolding members
members-bound [] = omega arith
members-bound (b ∷ S) = let h = digit-bound b in let r = members-bound S in omega arith

digit-within : (a b : Bool) → (a ≡ true → b ≡ true) → digit a ≤ digit b
digit-within true b h = rw (h refl) (omega arith)
digit-within false b h = omega arith

pub members-within : (S R : List Bool) → length S ≡ length R → Within S R → members S ≤ members R
unfolding members
members-within [] [] e w = omega arith
members-within [] (b ∷ R) e w = omega arith
members-within (a ∷ S) [] e w = absurd (omega arith)
members-within (a ∷ S) (b ∷ R) e w =
    let first = digit-within a b (w 0) in
    let rest = members-within S R (omega arith) (λ t. w (suc t)) in
    omega arith

pub members_less : (S R : List Bool) (t : ℕ) → length S ≡ length R → Within S R
    → has R t ≡ true → has S t ≡ false → members S < members R
unfolding members
members_less [] [] t e w h n = absurd (clash (cc))
members_less [] (b ∷ R) t e w h n = absurd (omega arith)
members_less (a ∷ S) [] t e w h n = absurd (omega arith)
members_less (a ∷ S) (b ∷ R) zero e w h n =
    let rest = members-within S R (omega arith) (λ t. w (suc t)) in
    let x : digit a ≡ 0 = rw n in
    let y : digit b ≡ 1 = rw h in
    omega arith
members_less (a ∷ S) (b ∷ R) (suc t) e w h n =
    let first = digit-within a b (w 0) in
    let rest = members_less S R t (omega arith) (λ t. w (suc t)) h n in
    omega arith

-- an empty set has no member
pub members-zero : (S : List Bool) → members S ≡ 0 → (t : ℕ) → has S t ≡ false
unfolding members
members-zero [] e t = refl
members-zero (true ∷ S) e t = absurd (omega arith)
members-zero (false ∷ S) e zero = refl
members-zero (false ∷ S) e (suc t) = members-zero S (omega arith) t

-- and back
pub members-none : (S : List Bool) → ((t : ℕ) → has S t ≡ false) → members S ≡ 0
unfolding members
members-none [] none = refl
members-none (b ∷ S) none = rw (none 0) (omega (arith, members-none S (λ t. none (suc t))))

-- the same numbers are in both, of whatever length the tables are
pub members-same : (S R : List Bool) → ((t : ℕ) → has S t ≡ has R t) → members S ≡ members R
unfolding members
members-same [] R same = sym (members-none R (λ t. sym (same t)))
members-same (a ∷ S) [] same = members-none (a ∷ S) same
members-same (a ∷ S) (b ∷ R) same = rw (same 0, members-same S R (λ t. same (suc t)))

-- a member taken out leaves one fewer
pub members_out : (S : List Bool) (t : ℕ) → has S t ≡ true → members (set S t false) + 1 ≡ members S
unfolding members
members_out [] t h = absurd (clash (cc))
members_out (b ∷ S) zero h = rw h (omega arith)
members_out (b ∷ S) (suc t) h = let rest = members_out S t h in omega arith
