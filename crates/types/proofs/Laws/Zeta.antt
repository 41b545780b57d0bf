-- The zeta transform: sums over the subsets of a word, here bitwise or, over the bits below n.
--   Inside, Under            a word within another; one that differs from it below n only
--   zeta-kept, zeta-joined   one bit further
--   zeta_intro, zeta_elim    the bits of an entry: those of the entries under it
--   zeta-small               entries stay below a power of two
--   zeta_cong                an entry comes from the entries up to it
-- Assumes nothing.
use Prim.Native.Nat.{ℕ, zero, suc, ◌-◌, ◌^◌, ◌≤◌, ◌<◌}
use native.Mathlib.Omega.{arith}
use native.Mathlib.Decide.{ℕ_discrete}
use mathlib.Core.Path.{◌≡◌, refl, sym, ap, ◌∙◌}
use mathlib.Core.Bool.{Bool, true, false, cond, not, ◌||◌, and-true, and-false, or-true}
use lib.Dec.{eqb}
use lib.Bits.{bit_or, or_lt}
use borrow.Author.Tests.{eq-eqb, ne_eqb}
use Rattle.records.proofs.Laws.Tests.{clash, both_left}
use Rattle.records.specs.Finite.{bit}
use Rattle.types.specs.Code.Words.{zeta}
use Rattle.records.proofs.Laws.Bits.{bit-or, Cleared, cleared}
use Rattle.records.proofs.Laws.Width.{bits_everywhere}

-- Each bit of y is a bit of x.
abbrev pub Inside : ℕ → ℕ → Type 0
Inside y x = (j : ℕ) → bit y j ≡ true → bit x j ≡ true

pub record Under (n y x : ℕ) : Type 0 where
  pub inside : Inside y x
  pub above : (j : ℕ) → n ≤ j → bit y j ≡ bit x j

under_self : (n x : ℕ) → Under n x x
under_self n x = record { inside = λ j e. e; above = λ j l. refl }

under_wider : (n y x : ℕ) → Under n y x → Under (suc n) y x
under_wider n y x u = record { inside = u.inside; above = λ j l. u.above j (omega arith) }

under_none : (y x : ℕ) → Under 0 y x → y ≡ x
under_none y x u = bits_everywhere y x (λ j. u.above j (omega arith))

-- the bit at n is the same too
under_narrow : (n y x : ℕ) → Under (suc n) y x → bit y n ≡ bit x n → Under n y x
under_narrow n y x u e = record { inside = u.inside; above = λ j l. at j l (ℕ_discrete n j) }
  where
    at : (j : ℕ) → n ≤ j → Dec (n ≡ j) → bit y j ≡ bit x j
    at j l (yes q) = ap (bit y) (sym q) ∙ e ∙ ap (bit x) q
    at j l (no q) = u.above j (omega arith)

-- x without its bit n: below it is what is below x and has no bit n
module _ (n x : ℕ) (c : Cleared x n) where
  cleared_other : (j : ℕ) → (j ≡ n → ⊥) → bit (x - 2 ^ n) j ≡ bit x j
  cleared_other j d = c.bits j ∙ rw (ne_eqb j n d) (and-true (bit x j))

  cleared-same : bit (x - 2 ^ n) n ≡ false
  cleared-same = c.bits n ∙ rw (eq-eqb n n refl) (and-false (bit x n))

  under_cleared : (y : ℕ) → Under (suc n) y x → bit y n ≡ false → Under n y (x - 2 ^ n)
  under_cleared y u e = record { inside = λ j k. in_at j k (ℕ_discrete j n); above = λ j l. at j l (ℕ_discrete j n) }
    where
      in_at : (j : ℕ) → bit y j ≡ true → Dec (j ≡ n) → bit (x - 2 ^ n) j ≡ true
      in_at j k (yes q) = let clear = ap (bit y) q ∙ e in absurd (clash (cc))
      in_at j k (no q) = cleared_other j q ∙ u.inside j k

      at : (j : ℕ) → n ≤ j → Dec (j ≡ n) → bit y j ≡ bit (x - 2 ^ n) j
      at j l (yes q) = ap (bit y) q ∙ e ∙ sym cleared-same ∙ ap (bit (x - 2 ^ n)) (sym q)
      at j l (no q) = u.above j (omega arith) ∙ sym (cleared_other j q)

  under_set : (y : ℕ) → Under n y (x - 2 ^ n) → Under (suc n) y x
  under_set y u =
      record {
        inside = λ j k. both_left (bit x j) (not (eqb j n)) (sym (c.bits j) ∙ u.inside j k);
        above = λ j l. u.above j (omega arith) ∙ cleared_other j (λ q. omega arith);
      }

-- One of the entries under x has bit j.
abbrev pub Source : (ℕ → ℕ) → ℕ → ℕ → ℕ → Type 0
Source f n x j = (y : ℕ) × Under n y x × (bit (f y) j ≡ true)

module _ (f : ℕ → ℕ) where
  pub zeta-kept : (n x : ℕ) → bit x n ≡ false → zeta f (suc n) x ≡ zeta f n x
  unfolding zeta
  zeta-kept n x e = rw e

  pub zeta-joined : (n x : ℕ) → bit x n ≡ true → zeta f (suc n) x ≡ bit_or (zeta f n x) (zeta f n (x - 2 ^ n))
  unfolding zeta
  zeta-joined n x e = rw e

  bit_kept : (n x j : ℕ) → bit x n ≡ false → bit (zeta f (suc n) x) j ≡ bit (zeta f n x) j
  bit_kept n x j e = ap (λ (y : ℕ). bit y j) (zeta-kept n x e)

  bit-joined : (n x j : ℕ) → bit x n ≡ true
      → bit (zeta f (suc n) x) j ≡ (bit (zeta f n x) j || bit (zeta f n (x - 2 ^ n)) j)
  bit-joined n x j e = ap (λ (y : ℕ). bit y j) (zeta-joined n x e) ∙ bit-or (zeta f n x) (zeta f n (x - 2 ^ n)) j

  pub zeta_intro : (n x y j : ℕ) → Under n y x → bit (f y) j ≡ true → bit (zeta f n x) j ≡ true
  unfolding zeta
  zeta_intro zero x y j u e = ap (λ (z : ℕ). bit (f z) j) (sym (under_none y x u)) ∙ e
  zeta_intro (suc n) x y j u e =
      at (bit x n) (bit y n) refl refl (λ w. zeta_intro n x y j w e) (λ w. zeta_intro n (x - 2 ^ n) y j w e)
    where
      at : (a b : Bool) → bit x n ≡ a → bit y n ≡ b → (Under n y x → bit (zeta f n x) j ≡ true)
          → (Under n y (x - 2 ^ n) → bit (zeta f n (x - 2 ^ n)) j ≡ true) → bit (zeta f (suc n) x) j ≡ true
      at false false p q r s = bit_kept n x j p ∙ r (under_narrow n y x u (q ∙ sym p))
      at false true p q r s = let bad = u.inside n q in absurd (clash (cc))
      at true true p q r s = bit-joined n x j p ∙ rw (r (under_narrow n y x u (q ∙ sym p)))
      at true false p q r s =
          bit-joined n x j p ∙ rw (s (under_cleared n x (cleared n x p) y u q)) (or-true (bit (zeta f n x) j))

  pub zeta_elim : (n x j : ℕ) → bit (zeta f n x) j ≡ true → Source f n x j
  unfolding zeta
  zeta_elim zero x j e = (x, under_self 0 x, e)
  zeta_elim (suc n) x j e = at (bit x n) refl (zeta_elim n x j) (zeta_elim n (x - 2 ^ n) j)
    where
      joined : bit x n ≡ true → (b : Bool) → bit (zeta f n x) j ≡ b → (b || bit (zeta f n (x - 2 ^ n)) j) ≡ true
          → (bit (zeta f n x) j ≡ true → Source f n x j)
          → (bit (zeta f n (x - 2 ^ n)) j ≡ true → Source f n (x - 2 ^ n) j) → Source f (suc n) x j
      joined p true q h r s = let o = r q in (o.0, under_wider n o.0 x o.1, o.2)
      joined p false q h r s = let o = s h in (o.0, under_set n x (cleared n x p) o.0 o.1, o.2)

      at : (a : Bool) → bit x n ≡ a → (bit (zeta f n x) j ≡ true → Source f n x j)
          → (bit (zeta f n (x - 2 ^ n)) j ≡ true → Source f n (x - 2 ^ n) j) → Source f (suc n) x j
      at false p r s = let o = r (sym (bit_kept n x j p) ∙ e) in (o.0, under_wider n o.0 x o.1, o.2)
      at true p r s = joined p (bit (zeta f n x) j) refl (sym (bit-joined n x j p) ∙ e) r s

  pub zeta-small : (n k x : ℕ) → ((y : ℕ) → y ≤ x → f y < 2 ^ k) → zeta f n x < 2 ^ k
  unfolding zeta
  zeta-small zero k x h = h x (omega arith)
  zeta-small (suc n) k x h = at (bit x n) (zeta-small n k x h) (zeta-small n k (x - 2 ^ n) (λ y l. h y (omega arith)))
    where
      at : (a : Bool) → zeta f n x < 2 ^ k → zeta f n (x - 2 ^ n) < 2 ^ k
          → cond a (bit_or (zeta f n x) (zeta f n (x - 2 ^ n))) (zeta f n x) < 2 ^ k
      at true p q = or_lt k (zeta f n x) (zeta f n (x - 2 ^ n)) p q
      at false p q = p

pub zeta_cong : (f g : ℕ → ℕ) (n x : ℕ) → ((y : ℕ) → y ≤ x → f y ≡ g y) → zeta f n x ≡ zeta g n x
unfolding zeta
zeta_cong f g zero x h = h x (omega arith)
zeta_cong f g (suc n) x h =
    rw (zeta_cong f g n x h, zeta_cong f g n (x - 2 ^ n) (λ y l. h y (omega arith)))
