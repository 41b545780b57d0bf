-- Searches over the numbers below n.
--   any_intro, any_elim   a search that finds something
--   any_none, any_at      a search that finds nothing, and what that tells
--   any_hit, any_miss     a search, one number further
--   any_cong              two searches with the same tests
-- Assumes nothing.
use Prim.Native.Nat.{ℕ, zero, suc, ◌+◌, ◌<◌}
use native.Mathlib.Omega.{arith}
use native.Mathlib.Numerals.{add-one}
use native.Mathlib.Decide.{ℕ_discrete}
use mathlib.Core.Path.{◌≡◌, refl, sym, subst, ◌∙◌}
use mathlib.Core.Bool.{Bool, true, false, ◌||◌, or-true, or-false}
use Rattle.records.specs.Finite.{any_below}
use Rattle.records.proofs.Laws.Tests.{clash, either_left, either_right}

-- A number that passes the test.
abbrev pub Found : (ℕ → Bool) → ℕ → Type 0
Found test n = (i : ℕ) × (i < n) × (test i ≡ true)

module _ (test : ℕ → Bool) where
  pub any_intro : (n i : ℕ) → i < n → test i ≡ true → any_below test n ≡ true
  unfolding any_below
  any_intro zero i h e = absurd (omega arith)
  any_intro (suc n) i h e = at (ℕ_discrete i n) (any_intro n i)
    where
      at : Dec (i ≡ n) → (i < n → test i ≡ true → any_below test n ≡ true) → (any_below test n || test n) ≡ true
      at (yes q) r = rw (subst (λ (j : ℕ). test j ≡ true) q e) (or-true (any_below test n))
      at (no q) r = rw (r (omega arith) e)

  pub any_elim : (n : ℕ) → any_below test n ≡ true → Found test n
  unfolding any_below
  any_elim zero e = absurd (clash (cc))
  any_elim (suc n) e = at (any_below test n) refl e (any_elim n)
    where
      at : (b : Bool) → any_below test n ≡ b → (b || test n) ≡ true → (any_below test n ≡ true → Found test n)
          → Found test (suc n)
      at true q h r = let f = r q in (f.0, omega (arith, f.1), f.2)
      at false q h r = (n, omega arith, h)

  pub any_none : (n : ℕ) → ((i : ℕ) → i < n → test i ≡ false) → any_below test n ≡ false
  unfolding any_below
  any_none zero h = refl
  any_none (suc n) h = rw (any_none n (λ i l. h i (omega arith)), h n (omega arith))

pub any_cong : (f g : ℕ → Bool) (n : ℕ) → ((i : ℕ) → i < n → f i ≡ g i) → any_below f n ≡ any_below g n
unfolding any_below
any_cong f g zero h = refl
any_cong f g (suc n) h = rw (any_cong f g n (λ i l. h i (omega arith)), h n (omega arith))

pub any_at : (test : ℕ → Bool) (n : ℕ) → any_below test n ≡ false → (k : ℕ) → k < n → test k ≡ false
unfolding any_below
any_at test zero e k h = absurd (omega arith)
any_at test (suc n) e k h =
    at (ℕ_discrete k n) (any_at test n (either_left (any_below test n) (test n) e) k)
  where
    at : Dec (k ≡ n) → (k < n → test k ≡ false) → test k ≡ false
    at (yes q) r = subst (λ (j : ℕ). test j ≡ false) (sym q) (either_right (any_below test n) (test n) e)
    at (no q) r = r (omega arith)

-- A search over the numbers below n, one number further.
module _ (test : ℕ → Bool) (n : ℕ) where
  pub any_hit : test n ≡ true → true ≡ any_below test (n + 1)
  unfolding any_below
  any_hit e = rw (add-one, e) (sym (or-true (any_below test n)))

  pub any_miss : (found : Bool) → found ≡ any_below test n → test n ≡ false → found ≡ any_below test (n + 1)
  unfolding any_below
  any_miss found f e = rw (add-one, e) (f ∙ sym (or-false (any_below test n)))
