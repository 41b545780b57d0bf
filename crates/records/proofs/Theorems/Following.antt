-- Chains by a next number, which is 0 or names something ahead: they rise and end.
--   Ahead, Onward             what lies ahead of i; 0, or something ahead
--   follow_nil, follow-step   the chain from 0, and from a number ahead
--   follow-few                it has no more numbers than steps were made
--   follow-same               chains of which each link is the same; 0 has none
--   follow-ends               followed as far as one likes it is the chain
--   Rising, follow_rises      each is after the one before
--   rising_above              so what occurs comes after where they start
--   follow_target             what is on the chain may be on it
--   left, left_falls          a walk along the chain ends: what is left of it falls
--   last_above                the last of a chain that is not empty comes after where it started
--   follow_cong               chains whose links are the same
--   Carried, follow-linked    a chain that was linked on at its end has one number more
-- Assumes nothing.
use Prim.Native.Nat.{ℕ, zero, suc, ◌+◌, ◌-◌, ◌≤◌, ◌<◌}
use native.Mathlib.Omega.{arith}
use mathlib.Core.Path.{◌≡◌, refl, sym, ap, subst, ◌∙◌}
use mathlib.Core.Bool.{true}
use mathlib.Core.List.{List, [], ◌∷◌, ◌++◌}
use mathlib.Core.Logic.{◌⊎◌, inl, inr, ⊎_elim}
use lib.ListN.{length}
use Rattle.records.specs.Chain.{follow}
use Rattle.records.specs.Finite.{occurs, last_or}
use Rattle.records.proofs.Laws.Lists.{occurs_nil, occurs_cons}

-- x comes after i, below n, and may be on the chain.
pub record Ahead (Target : ℕ → Type 0) (n i x : ℕ) : Type 0 where
  pub later : i < x
  pub within : x < n
  pub target : Target x

-- x ends the chain, or is ahead of i.
abbrev pub Onward : (ℕ → Type 0) → ℕ → ℕ → ℕ → Type 0
Onward Target n i x = (x ≡ 0) ⊎ Ahead Target n i x

-- Numbers that rise, from above i.
abbrev pub Rising : ℕ → List ℕ → Type 0
Rising i [] = Unit {0}
Rising i (x ∷ xs) = (i < x) × Rising x xs

-- What is left of a walk that stands at one of n records; nothing at 0.
abbrev pub left : ℕ → ℕ → ℕ
left n zero = 0
left n (suc i) = n - i

pub follow_nil : (next : ℕ → ℕ) (n : ℕ) → follow next n 0 ≡ []
unfolding follow
follow_nil next zero = refl
follow_nil next (suc n) = refl

pub follow-few : (next : ℕ → ℕ) (n i : ℕ) → length (follow next n i) ≤ n
unfolding follow
follow-few next zero i = omega arith
follow-few next (suc n) zero = omega arith
follow-few next (suc n) (suc i) = omega (arith, follow-few next n (next (suc i)))

pub follow-same : (next other : ℕ → ℕ) → ((i : ℕ) → next (suc i) ≡ other (suc i)) → (n i : ℕ) → follow next n i ≡ follow other n i
unfolding follow
follow-same next other same zero i = refl
follow-same next other same (suc n) zero = refl
follow-same next other same (suc n) (suc i) =
    ap (λ (l : List ℕ). suc i ∷ l) (ap (follow next n) (same i) ∙ follow-same next other same n (other (suc i)))

rising_last : (i : ℕ) (l : List ℕ) → Rising i l → i ≤ last_or i l
unfolding last_or
rising_last i [] r = omega arith
rising_last i (x ∷ xs) r = omega (arith, r.0, rising_last x xs r.1)

pub rising_above : (i : ℕ) (l : List ℕ) (x : ℕ) → Rising i l → occurs x l ≡ true → i < x
rising_above i [] x r o = absurd (occurs_nil x o)
rising_above i (y ∷ l) x r o =
    ⊎_elim (λ e. omega (arith, r.0)) (λ p. omega (arith, r.0, rising_above y l x r.1 p)) (occurs_cons x y l o)

module _ (Target : ℕ → Type 0) (n : ℕ) where
  pub left_falls : (i x : ℕ) → 0 < i → i < n → Onward Target n i x → left n x < left n i
  left_falls zero x p h l = absurd (omega arith)
  left_falls (suc i) x p h (inl e) = rw e (omega arith)
  left_falls (suc i) zero p h (inr s) = omega arith
  left_falls (suc i) (suc x) p h (inr s) = omega (arith, s.later, s.within)

  -- something further ahead
  ahead_from : (i j x : ℕ) → i ≤ j → Ahead Target n j x → Ahead Target n i x
  ahead_from i j x h s = record { later = omega (arith, s.later); within = s.within; target = s.target }

  pub onward_from : (i j x : ℕ) → i ≤ j → Onward Target n j x → Onward Target n i x
  onward_from i j x h (inl e) = inl e
  onward_from i j x h (inr s) = inr (ahead_from i j x h s)

-- Chains whose links lead onward.
module _ (next : ℕ → ℕ) (Target : ℕ → Type 0) (count : ℕ)
    (links : (i : ℕ) → 0 < i → i < count → Target i → Onward Target count i (next i)) where
  -- enough steps to reach the end from x, where x does not end the chain
  Enough : ℕ → ℕ → ℕ → Type 0
  Enough n i x = Ahead Target count i x → count ≤ n + x

  next_onward : (i x : ℕ) → Ahead Target count i (suc x) → Onward Target count (suc x) (next (suc x))
  next_onward i x s = links (suc x) (omega arith) s.within s.target

  follow_more : (n m i x : ℕ) → Onward Target count i x → Enough n i x → Enough m i x → follow next n x ≡ follow next m x
  unfolding follow Enough
  follow_more zero m i x (inl e) h k = rw e (sym (follow_nil next m))
  follow_more zero m i x (inr s) h k = absurd (omega (arith, h s, s.within))
  follow_more (suc n) m i x (inl e) h k = rw e (sym (follow_nil next m))
  follow_more (suc n) zero i x (inr s) h k = absurd (omega (arith, k s, s.within))
  follow_more (suc n) (suc m) i zero (inr s) h k = refl
  follow_more (suc n) (suc m) i (suc x) (inr s) h k =
      ap (λ (l : List ℕ). suc x ∷ l)
      (follow_more n m (suc x) (next (suc x)) (next_onward i x s)
      (λ t. omega (arith, h s, t.later))
      (λ t. omega (arith, k s, t.later)))

  pub follow-step : (i x : ℕ) → Ahead Target count i x → follow next count x ≡ x ∷ follow next count (next x)
  unfolding follow Enough
  follow-step i zero s = absurd (omega (arith, s.later))
  follow-step i (suc x) s = at count refl
    where
      at : (n : ℕ) → count ≡ n → follow next n (suc x) ≡ suc x ∷ follow next n (next (suc x))
      at zero e = absurd (omega (arith, s.within))
      at (suc n) e =
          ap (λ (l : List ℕ). suc x ∷ l)
          (follow_more n (suc n) (suc x) (next (suc x)) (next_onward i x s)
          (λ t. omega (arith, t.later))
          (λ t. omega arith))

  pub follow-ends : (n x : ℕ) → Onward Target count 0 x → count ≤ n → follow next n x ≡ follow next count x
  unfolding Enough
  follow-ends n x l h = follow_more n count 0 x l (λ t. omega arith) (λ t. omega arith)

  pub follow_rises : (n i x : ℕ) → Onward Target count i x → Rising i (follow next n x)
  unfolding follow
  follow_rises zero i x l = tt
  follow_rises (suc n) i x (inl e) = rw e tt
  follow_rises (suc n) i zero (inr s) = tt
  follow_rises (suc n) i (suc x) (inr s) = (s.later, follow_rises n (suc x) (next (suc x)) (next_onward i x s))

  pub follow_target : (n i x j : ℕ) → Onward Target count i x → occurs j (follow next n x) ≡ true → Ahead Target count i j
  unfolding follow
  follow_target zero i x j l o = absurd (occurs_nil j o)
  follow_target (suc n) i x j (inl e) o = absurd (occurs_nil j (rw e at o))
  follow_target (suc n) i zero j (inr s) o = absurd (occurs_nil j o)
  follow_target (suc n) i (suc x) j (inr s) o =
      ⊎_elim
      (λ e. subst (Ahead Target count i) (sym e) s)
      (λ p. ahead_from Target count i (suc x) j (omega (arith, s.later))
      (follow_target n (suc x) (next (suc x)) j (next_onward i x s) p))
      (occurs_cons j (suc x) (follow next n (next (suc x))) o)

  pub last_above : (n i x : ℕ) → Ahead Target count i x → 0 < n → i < last_or i (follow next n x)
  unfolding follow last_or
  last_above zero i x s h = absurd (omega arith)
  last_above (suc n) i zero s h = absurd (omega (arith, s.later))
  last_above (suc n) i (suc x) s h =
      omega (
        arith,
        s.later,
        rising_last (suc x) (follow next n (next (suc x)))
            (follow_rises n (suc x) (next (suc x)) (next_onward i x s)),
      )

  module _ (other : ℕ → ℕ) where
    pub follow_cong : ((j : ℕ) → 0 < j → j < count → Target j → other j ≡ next j) → (n i x : ℕ) → Onward Target count i x
        → follow other n x ≡ follow next n x
    unfolding follow
    follow_cong same zero i x l = refl
    follow_cong same (suc n) i x (inl e) = rw e
    follow_cong same (suc n) i zero (inr s) = refl
    follow_cong same (suc n) i (suc x) (inr s) =
        ap (λ (l : List ℕ). suc x ∷ l)
        (ap (follow other n) (same (suc x) (omega arith) s.within s.target)
        ∙ follow_cong same n (suc x) (next (suc x)) (next_onward i x s))

  -- The link x is as it was, but that the end of the chain leads to a new number.
  abbrev pub Carried : ℕ → ℕ → ℕ → Type 0
  Carried new x y = ((x ≡ 0) × (y ≡ new)) ⊎ ((0 < x) × (y ≡ x))

  module _ (other : ℕ → ℕ) (new end : ℕ) (positive : 0 < new) (ends : other new ≡ 0)
      (kept : (j : ℕ) → 0 < j → j < count → Target j → (j ≡ end → ⊥) → other j ≡ next j)
      (onto : 0 < end → other end ≡ new) where
    -- the chain from the new number
    alone : (n : ℕ) → follow other (suc n) new ≡ new ∷ []
    unfolding follow
    alone n = at new positive refl
      where
        at : (x : ℕ) → 0 < x → x ≡ new → follow other (suc n) x ≡ x ∷ []
        at zero p e = absurd (omega arith)
        at (suc x) p e =
            ap (λ (l : List ℕ). suc x ∷ l) (ap (follow other n) (ap other e ∙ ends) ∙ follow_nil other n)

    -- where the link after x leads
    carried_next : (n i x : ℕ) → Ahead Target count i (suc x) → Enough (suc n) i (suc x)
        → last_or (suc x) (follow next n (next (suc x))) ≡ end → Carried new (next (suc x)) (other (suc x))
    unfolding last_or Enough
    carried_next n i x s enough last = at (next_onward i x s)
      where
        at : Onward Target count (suc x) (next (suc x)) → Carried new (next (suc x)) (other (suc x))
        at (inl e) =
            let here : suc x ≡ end
            = sym (ap (last_or (suc x)) (ap (follow next n) e ∙ follow_nil next n)) ∙ last in
            inl (e, ap other here ∙ onto (omega arith))
        at (inr t) =
            let above = last_above n (suc x) (next (suc x)) t (omega (arith, enough s, t.later, t.within)) in
            inr (omega (arith, t.later), kept (suc x) (omega arith) s.within s.target (λ e. omega arith))

    linked-steps : (n i d x y : ℕ) → Onward Target count i x → Enough n i x → last_or d (follow next n x) ≡ end
        → Carried new x y → follow other (suc n) y ≡ follow next n x ++ (new ∷ [])
    unfolding follow last_or Enough
    linked-steps zero i d x y (inl e) enough last (inl c) = ap (follow other 1) c.1 ∙ alone 0
    linked-steps zero i d x y (inl e) enough last (inr c) = absurd (omega (arith, c.0))
    linked-steps zero i d x y (inr s) enough last c = absurd (omega (arith, enough s, s.within))
    linked-steps (suc n) i d x y (inl e) enough last (inl c) =
        rw e (ap (follow other (suc (suc n))) c.1 ∙ alone (suc n))
    linked-steps (suc n) i d x y (inl e) enough last (inr c) = absurd (omega (arith, c.0))
    linked-steps (suc n) i d zero y (inr s) enough last c = absurd (omega (arith, s.later))
    linked-steps (suc n) i d (suc x) y (inr s) enough last (inl c) = absurd (omega (arith, c.0))
    linked-steps (suc n) i d (suc x) y (inr s) enough last (inr c) =
        ap (follow other (suc (suc n))) c.1
        ∙ ap (λ (l : List ℕ). suc x ∷ l)
        (linked-steps n (suc x) (suc x) (next (suc x)) (other (suc x)) (next_onward i x s)
        (λ t. omega (arith, enough s, t.later)) last (carried_next n i x s enough last))

    pub follow-linked : (x y : ℕ) → Onward Target count 0 x → last_or 0 (follow next count x) ≡ end → Carried new x y
        → follow other (suc count) y ≡ follow next count x ++ (new ∷ [])
    unfolding Enough
    follow-linked x y l last c = linked-steps count 0 0 x y l (λ t. omega arith) last c
