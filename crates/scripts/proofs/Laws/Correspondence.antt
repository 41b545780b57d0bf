-- Two runs whose literals correspond answer alike: one law for every pair of settings.
--   Pairs                                      two lists whose entries correspond, one by one
--   pairs_nil, pairs_length, pairs_at          such lists are empty together, as long, and have entries that correspond
--   pairs_without, pairs_close, pairs_extend   an entry left out; the goal closed; a column put on top
--   Alike, Corresponds                         complements correspond; the columns of a step do
--   step_same, stepped_pairs                   rows 20 to 23 and 25 at a step; the frames after it
--   run-same, chain_same                       a run; the check of a chain
-- Assumes nothing.
use Prim.Native.Nat.{ℕ, zero, suc, ◌-◌}
use mathlib.Core.Path.{◌≡◌, refl, ap}
use mathlib.Core.Bool.{Bool}
use mathlib.Core.List.{List, [], ◌∷◌}
use lib.ListN.{length, get_or}
use Rattle.records.specs.Outcome.{require}
use Rattle.records.proofs.Laws.Lists.{All}
use Rattle.scripts.specs.Steps.{Step, start, extension, reduction, extension_by, step_by}
use Rattle.records.specs.Finite.{without, is_nil}
use Rattle.scripts.specs.Run.{is_start, Frames, close, extend_by, Setting, goal, step_check, stepped, run, chain_check}

abbrev pub Pairs : {L M : Type 0} → (L → M → Type 0) → List L → List M → Type 0
Pairs R [] [] = Unit {0}
Pairs R [] (m ∷ ms) = ⊥
Pairs R (l ∷ ls) [] = ⊥
Pairs R (l ∷ ls) (m ∷ ms) = R l m × Pairs R ls ms

module _ {L M : Type 0} (R : L → M → Type 0) where
  pairs_nil : (ls : List L) (ms : List M) → Pairs R ls ms → is_nil ls ≡ is_nil ms
  pairs_nil [] [] h = refl
  pairs_nil [] (m ∷ ms) h = absurd h
  pairs_nil (l ∷ ls) [] h = absurd h
  pairs_nil (l ∷ ls) (m ∷ ms) h = refl

  pairs_length : (ls : List L) (ms : List M) → Pairs R ls ms → length ls ≡ length ms
  pairs_length [] [] h = refl
  pairs_length [] (m ∷ ms) h = absurd h
  pairs_length (l ∷ ls) [] h = absurd h
  pairs_length (l ∷ ls) (m ∷ ms) h = ap suc (pairs_length ls ms h.1)

  pairs_at : (d : L) (e : M) → R d e → (ls : List L) (ms : List M) (k : ℕ) → Pairs R ls ms → R (get_or ls k d) (get_or ms k e)
  pairs_at d e r [] [] k h = r
  pairs_at d e r [] (m ∷ ms) k h = absurd h
  pairs_at d e r (l ∷ ls) [] k h = absurd h
  pairs_at d e r (l ∷ ls) (m ∷ ms) zero h = h.0
  pairs_at d e r (l ∷ ls) (m ∷ ms) (suc k) h = pairs_at d e r ls ms k h.1

  pairs_without : (p : ℕ) (ls : List L) (ms : List M) → Pairs R ls ms → Pairs R (without p ls) (without p ms)
  unfolding without
  pairs_without p [] [] h = tt
  pairs_without p [] (m ∷ ms) h = absurd h
  pairs_without p (l ∷ ls) [] h = absurd h
  pairs_without zero (l ∷ ls) (m ∷ ms) h = h.1
  pairs_without (suc p) (l ∷ ls) (m ∷ ms) h = (h.0, pairs_without p ls ms h.1)

  abbrev pub Paired : Frames L → Frames M → Type 0
  Paired = Pairs (Pairs R)

  pairs_close : (fs : Frames L) (gs : Frames M) → Paired fs gs → Paired (close fs) (close gs)
  unfolding close
  pairs_close [] [] h = tt
  pairs_close [] (d ∷ gs) h = absurd h
  pairs_close (c ∷ fs) [] h = absurd h
  pairs_close ([] ∷ fs) ([] ∷ gs) h = pairs_close fs gs h.1
  pairs_close ([] ∷ fs) ((m ∷ d) ∷ gs) h = absurd h.0
  pairs_close ((l ∷ c) ∷ fs) ([] ∷ gs) h = absurd h.0
  pairs_close ((l ∷ []) ∷ fs) ((m ∷ []) ∷ gs) h = pairs_close fs gs h.1
  pairs_close ((l ∷ []) ∷ fs) ((m ∷ n ∷ d) ∷ gs) h = absurd h.0.1
  pairs_close ((l ∷ k ∷ c) ∷ fs) ((m ∷ []) ∷ gs) h = absurd h.0.1
  pairs_close ((l ∷ k ∷ c) ∷ fs) ((m ∷ n ∷ d) ∷ gs) h = (h.0.1, h.1)

  pairs_extend : (c : List L) (d : List M) (fs : Frames L) (gs : Frames M) → Pairs R c d → Paired fs gs
      → Paired (extend_by c fs) (extend_by d gs)
  unfolding extend_by
  pairs_extend [] [] fs gs h k = pairs_close fs gs k
  pairs_extend [] (m ∷ d) fs gs h k = absurd h
  pairs_extend (l ∷ c) [] fs gs h k = absurd h
  pairs_extend (l ∷ c) (m ∷ d) fs gs h k = (h, k)

-- Two settings; the second has the first's terms by σ.
module _ {A B L M : Type 0} (g : Setting A L) (h : Setting B M) (σ : A → B) (R : L → M → Type 0) where
  pub record Alike : Type 0 where
    pub opposed : (l k : L) (m n : M) → R l m → R k n → g.opposed l k ≡ h.opposed m n
    pub nothing : R g.nothing h.nothing

  abbrev pub Corresponds : Step A → Type 0
  Corresponds (start n) = Pairs R (g.starts n) (h.starts n)
  Corresponds (extension e) = Pairs R (g.uses e) (h.uses (extension_by σ e))
  Corresponds (reduction f) = Unit {0}

  module _ (alike : Alike) where
    frame_pairs : (fs : Frames L) (gs : Frames M) (k : ℕ) → Paired R fs gs → Pairs R (get_or fs k []) (get_or gs k [])
    frame_pairs fs gs k p = pairs_at (Pairs R) [] [] tt fs gs k p

    literal_pairs : (c : List L) (d : List M) (k : ℕ) → Pairs R c d → R (get_or c k g.nothing) (get_or d k h.nothing)
    literal_pairs c d k p = pairs_at R g.nothing h.nothing alike.nothing c d k p

    -- whether a literal of a column is the complement of the goal
    goal-same : (fs : Frames L) (gs : Frames M) → Paired R fs gs → (c : List L) (d : List M) (k : ℕ) → Pairs R c d
        → g.opposed (get_or c k g.nothing) (goal g fs) ≡ h.opposed (get_or d k h.nothing) (goal h gs)
    goal-same fs gs p c d k q =
        alike.opposed _ _ _ _ (literal_pairs c d k q)
        (literal_pairs (get_or fs 0 []) (get_or gs 0 []) 0 (frame_pairs fs gs 0 p))

    step_same : (i : ℕ) (fs : Frames L) (gs : Frames M) (t : Step A) → Paired R fs gs → Corresponds t
        → step_check g i fs t ≡ step_check h i gs (step_by σ t)
    unfolding step_check
    step_same i fs gs (start n) p c = rw (pairs_nil (Pairs R) fs gs p)
    step_same i fs gs (extension e) p c =
        let used = g.uses e in
        let other = h.uses (extension_by σ e) in
        let left = pairs_without R e.position used other c in
        rw (
          pairs_nil (Pairs R) fs gs p,
          goal-same fs gs p used other e.position c,
          pairs_nil R (without e.position used) (without e.position other) left,
          pairs_length (Pairs R) fs gs p,
        )
    step_same i fs gs (reduction f) p c =
        let long = pairs_length (Pairs R) fs gs p in
        let below = length gs - suc f in
        rw (
          pairs_nil (Pairs R) fs gs p,
          long,
          goal-same fs gs p (get_or fs below []) (get_or gs below []) 0 (frame_pairs fs gs below p),
        )

    stepped_pairs : (fs : Frames L) (gs : Frames M) (t : Step A) → Paired R fs gs → Corresponds t
        → Paired R (stepped g fs t) (stepped h gs (step_by σ t))
    unfolding stepped
    stepped_pairs fs gs (start n) p c = (c, tt)
    stepped_pairs fs gs (extension e) p c = pairs_extend R _ _ fs gs (pairs_without R e.position _ _ c) p
    stepped_pairs fs gs (reduction f) p c = pairs_close R fs gs p

    module _ (steps : ℕ → Step A) where
      run-same : (is : List ℕ) (fs : Frames L) (gs : Frames M) (last : ℕ) → All (λ i. Corresponds (steps i)) is → Paired R fs gs
          → run g steps fs last is ≡ run h (λ i. step_by σ (steps i)) gs last is
      unfolding run
      run-same [] fs gs last c p = ap (λ (b : Bool). require b 24 last) (pairs_nil (Pairs R) fs gs p)
      run-same (i ∷ is) fs gs last c p =
          rw (
            step_same i fs gs (steps i) p c.0,
            run-same is (stepped g fs (steps i)) (stepped h gs (step_by σ (steps i))) i c.1
                (stepped_pairs fs gs (steps i) p c.0),
          )

      start-same : (t : Step A) → is_start t ≡ is_start (step_by σ t)
      start-same (start n) = refl
      start-same (extension e) = refl
      start-same (reduction f) = refl

      pub chain_same : (is : List ℕ) → All (λ i. Corresponds (steps i)) is
          → chain_check g steps is ≡ chain_check h (λ i. step_by σ (steps i)) is
      unfolding chain_check
      chain_same [] c = refl
      chain_same (i ∷ is) c =
          rw (
            start-same (steps i),
            run-same is (stepped g [] (steps i)) (stepped h [] (step_by σ (steps i))) i c.1
                (stepped_pairs [] [] (steps i) tt c.0),
          )
