-- Tests below a bound: `all_below`, and the smallest number at which a test holds.
--   all_intro, all_at, all_fails, all_miss, all_cong   every number passes, or one does not
--   least-bound, least-holds, least-before             what the smallest is
--   least-is, least_end                                what is the smallest
--   least_cong                                         tests that agree below the bound
--   None, none-start, none_turn                        no number passes so far, one number further
-- Assumes nothing.
use Prim.Native.Nat.{ℕ, zero, suc, ◌+◌, ◌≤◌, ◌<◌}
use native.Mathlib.Omega.{arith}
use native.Mathlib.Decide.{ℕ_discrete}
use mathlib.Core.Path.{◌≡◌, refl, sym, subst, ap}
use mathlib.Core.Bool.{Bool, true, false, cond, ◌&&◌}
use Rattle.records.proofs.Laws.Tests.{clash, both_left, both_right}
use Rattle.records.specs.Finite.{all_below, least}

module _ (test : ℕ → Bool) where
  pub all_intro : (n : ℕ) → ((i : ℕ) → i < n → test i ≡ true) → all_below test n ≡ true
  unfolding all_below
  all_intro zero h = refl
  all_intro (suc n) h = rw (all_intro n (λ i l. h i (omega arith)), h n (omega arith))

  pub all_at : (n : ℕ) → all_below test n ≡ true → (i : ℕ) → i < n → test i ≡ true
  unfolding all_below
  all_at zero e i h = absurd (omega arith)
  all_at (suc n) e i h = at (ℕ_discrete i n) (all_at n (both_left (all_below test n) (test n) e) i)
    where
      at : Dec (i ≡ n) → (i < n → test i ≡ true) → test i ≡ true
      at (yes q) r = subst (λ (j : ℕ). test j ≡ true) (sym q) (both_right (all_below test n) (test n) e)
      at (no q) r = r (omega arith)

  -- a number that fails the test
  pub all_fails : (n : ℕ) → all_below test n ≡ false → (i : ℕ) × (i < n) × (test i ≡ false)
  unfolding all_below
  all_fails zero e = absurd (clash (cc))
  all_fails (suc n) e = at (all_below test n) refl e (all_fails n)
    where
      at : (b : Bool) → all_below test n ≡ b → (b && test n) ≡ false
          → (all_below test n ≡ false → (i : ℕ) × (i < n) × (test i ≡ false))
          → (i : ℕ) × (i < suc n) × (test i ≡ false)
      at true q h r = (n, omega arith, h)
      at false q h r = let f = r q in (f.0, omega (arith, f.1), f.2)

  -- a test that fails somewhere does not hold everywhere
  pub all_miss : (n i : ℕ) → i < n → test i ≡ false → all_below test n ≡ false
  all_miss n i h e = at (all_below test n) refl
    where
      at : (b : Bool) → all_below test n ≡ b → b ≡ false
      at true q = let holds = all_at n q i h in absurd (clash (cc))
      at false q = refl

pub all_cong : (f g : ℕ → Bool) (n : ℕ) → ((i : ℕ) → i < n → f i ≡ g i) → all_below f n ≡ all_below g n
unfolding all_below
all_cong f g zero h = refl
all_cong f g (suc n) h = rw (all_cong f g n (λ i l. h i (omega arith)), h n (omega arith))

pub least-bound : (n : ℕ) (test : ℕ → Bool) → least test n ≤ n
unfolding least
least-bound zero test = omega arith
least-bound (suc n) test = at (test 0) (least-bound n (λ i. test (suc i)))
  where
    at : (b : Bool) → least (λ i. test (suc i)) n ≤ n → cond b 0 (suc (least (λ i. test (suc i)) n)) ≤ suc n
    at true r = omega arith
    at false r = omega arith

pub least-holds : (n : ℕ) (test : ℕ → Bool) → least test n < n → test (least test n) ≡ true
unfolding least
least-holds zero test h = absurd (omega arith)
least-holds (suc n) test h = at (test 0) refl h (least-holds n (λ i. test (suc i)))
  where
    at : (b : Bool) → test 0 ≡ b → cond b 0 (suc (least (λ i. test (suc i)) n)) < suc n
        → (least (λ i. test (suc i)) n < n → test (suc (least (λ i. test (suc i)) n)) ≡ true)
        → test (cond b 0 (suc (least (λ i. test (suc i)) n))) ≡ true
    at true q l r = q
    at false q l r = r (omega arith)

pub least-before : (n : ℕ) (test : ℕ → Bool) (i : ℕ) → i < least test n → test i ≡ false
unfolding least
least-before zero test i h = absurd (omega arith)
least-before (suc n) test i h = at (test 0) refl i h (least-before n (λ i. test (suc i)))
  where
    at : (b : Bool) → test 0 ≡ b → (i : ℕ) → i < cond b 0 (suc (least (λ i. test (suc i)) n))
        → ((i : ℕ) → i < least (λ i. test (suc i)) n → test (suc i) ≡ false) → test i ≡ false
    at true q i l r = absurd (omega arith)
    at false q zero l r = q
    at false q (suc i) l r = r i (omega arith)

pub least-is : (n : ℕ) (test : ℕ → Bool) (t : ℕ) → t < n → test t ≡ true → ((u : ℕ) → u < t → test u ≡ false) → least test n ≡ t
unfolding least
least-is zero test t l h before = absurd (omega arith)
least-is (suc n) test zero l h before = rw h
least-is (suc n) test (suc t) l h before =
    rw (before 0 (omega arith)) (ap (λ (x : ℕ). suc x)
    (least-is n (λ i. test (suc i)) t (omega arith) h (λ u k. before (suc u) (omega arith))))

pub least_end : (n : ℕ) (test : ℕ → Bool) → ((u : ℕ) → u < n → test u ≡ false) → least test n ≡ n
unfolding least
least_end zero test none = refl
least_end (suc n) test none =
    rw (none 0 (omega arith)) (ap (λ (x : ℕ). suc x) (least_end n (λ i. test (suc i)) (λ u k. none (suc u) (omega arith))))

pub least_cong : (n : ℕ) (f g : ℕ → Bool) → ((i : ℕ) → i < n → f i ≡ g i) → least f n ≡ least g n
unfolding least
least_cong zero f g h = refl
least_cong (suc n) f g h =
    rw (h 0 (omega arith))
    (ap (λ (x : ℕ). cond (g 0) 0 (suc x)) (least_cong n (λ i. f (suc i)) (λ i. g (suc i)) (λ i l. h (suc i) (omega arith))))

-- No number below n passes.
abbrev pub None : (ℕ → Bool) → ℕ → Type 0
None test n = (u : ℕ) → u < n → test u ≡ false

module _ (test : ℕ → Bool) where
  pub none-start : None test 0
  none-start u h = absurd (omega arith)

  pub none_turn : (n : ℕ) → None test n → test n ≡ false → None test (n + 1)
  none_turn n none e u h = at (ℕ_discrete u n)
    where
      at : Dec (u ≡ n) → test u ≡ false
      at (yes q) = subst (λ (j : ℕ). test j ≡ false) (sym q) e
      at (no q) = none u (omega arith)
