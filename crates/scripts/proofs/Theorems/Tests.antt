-- The run of a chain as a test of its steps, with no numbers and places: what it takes to pass.
--   passes, passes-true                         whether a check passes; a check that does is `pass`
--   passes_then, passes-require                 a check and the next; a row
--   step_passes, succeeds, chain_succeeds         a step passes at some frames; steps do in turn; a chain does
--   step-passes, run_succeeds, chain_succeeds_lem   rows 20 to 23 and 25 at a step; the run; the check of a chain
-- Assumes nothing.
use Prim.Native.Nat.{ℕ}
use mathlib.Core.Path.{◌≡◌, refl, ◌∙◌}
use mathlib.Core.Bool.{Bool, true, false, not, ◌&&◌}
use mathlib.Core.List.{List, [], ◌∷◌, map}
use Rattle.records.specs.Outcome.{Check, accepted, refused, pass, ◌then◌, require}
use Rattle.records.proofs.Laws.Tests.{clash}
use Rattle.scripts.specs.Steps.{Step}
use Rattle.scripts.specs.Run.{Frames, is_start, Setting, connects, reduces, has_room, step_check, stepped, run, chain_check}
use Rattle.records.specs.Finite.{is_nil}

abbrev pub passes : Check → Bool
passes (accepted a) = true
passes (refused n p) = false

pub passes-true : (c : Check) → passes c ≡ true → c ≡ pass
passes-true (accepted a) e = refl
passes-true (refused n p) e = absurd (clash (cc))

passes_then : (a b : Check) → passes (a then b) ≡ (passes a && passes b)
passes_then (accepted a) b = refl
passes_then (refused n p) b = refl

passes-require : (b : Bool) (n p : ℕ) → passes (require b n p) ≡ b
passes-require true n p = refl
passes-require false n p = refl

module _ {A L : Type 0} (g : Setting A L) where
  abbrev pub step_passes : Frames L → Step A → Bool
  step_passes frames step =
      not (is_nil frames)
      && (not (is_start step) && (connects g frames step && (reduces g frames step && has_room g frames step)))

  unfoldable pub succeeds : List (Step A) → Frames L → Bool
  succeeds [] frames = is_nil frames
  succeeds (step ∷ rest) frames = step_passes frames step && succeeds rest (stepped g frames step)

  abbrev pub chain_succeeds : List (Step A) → Bool
  chain_succeeds [] = false
  chain_succeeds (step ∷ rest) = is_start step && succeeds rest (stepped g [] step)

  step-passes : (i : ℕ) (frames : Frames L) (step : Step A) → passes (step_check g i frames step) ≡ step_passes frames step
  unfolding step_check
  step-passes i frames step = simp (passes_then, passes-require)

  module _ (steps : ℕ → Step A) where
    run_succeeds : (is : List ℕ) (frames : Frames L) (last : ℕ) → passes (run g steps frames last is) ≡ succeeds
        (map steps is) frames
    unfolding run succeeds
    run_succeeds [] frames last = passes-require (is_nil frames) 24 last
    run_succeeds (i ∷ is) frames last =
        passes_then (step_check g i frames (steps i)) _
        ∙ rw (step-passes i frames (steps i), run_succeeds is (stepped g frames (steps i)) i)

    pub chain_succeeds_lem : (is : List ℕ) → passes (chain_check g steps is) ≡ chain_succeeds (map steps is)
    unfolding chain_check
    chain_succeeds_lem [] = refl
    chain_succeeds_lem (i ∷ is) =
        passes_then (require (is_start (steps i)) 20 i) _
        ∙ rw (passes-require (is_start (steps i)) 20 i, run_succeeds is (stepped g [] (steps i)) i)
