-- The walk along the chain of steps.
--   standing, reached, step_ahead   where a walk stands, by the links
--   chain_at, chain_end_lem             the chain from a step, and from 0
--   next-reached, walk_falls        the next step; what is left of the walk falls
--   Walk, walk_start, walk_next     what was run and what is left is the run
--   walk_refused, walk_done         the answer at a refusal, and at the end
-- Assumes nothing.
use Prim.Native.Nat.{ℕ, suc, ◌+◌, ◌≤◌, ◌<◌}
use native.Mathlib.Omega.{arith}
use mathlib.Core.Path.{◌≡◌, sym, subst, ◌∙◌}
use mathlib.Core.List.{List, [], ◌∷◌}
use mathlib.Core.Logic.{inl, inr}
use lib.ListN.{length}
use Rattle.records.specs.Finite.{is_nil}
use Rattle.records.specs.Outcome.{Outcome, Check, accepted, refused, pass, ◌then◌, require}
use Rattle.records.proofs.Theorems.Following.{Onward, follow_nil, follow-step, left, left_falls}
use Rattle.scripts.specs.Format.{entry_limit, entries, record_step, next_step, chain_from}
use Rattle.scripts.specs.Run.{Frames, step_check, stepped, run}
use Rattle.scripts.specs.Code.Numbered.{numbered}
use Rattle.scripts.specs.Code.Tested.{steps_after, run_after}
use Rattle.scripts.specs.Code.Ready.{IsStep, Reached}
use Rattle.scripts.proofs.Theorems.Form.{KeepsForm, IsStepAt, OnChain, chain-few}

pub standing : (s : List ℕ) (i : ℕ) → Reached s i → (i ≡ 0 → ⊥) → IsStep s i
standing s i (inl e) n = absurd (n e)
standing s i (inr t) n = t

pub reached : (s : List ℕ) (i x : ℕ) → Onward (IsStepAt s) (entries s) i x → Reached s x
reached s i x (inl e) = inl e
reached s i x (inr t) = inr record { positive = omega (arith, t.later); within = t.within; step = t.target }

step_ahead : (s : List ℕ) (i : ℕ) → IsStep s i → OnChain s i
step_ahead s i t = record { later = t.positive; within = t.within; target = t.step }

pub chain_end_lem : (s : List ℕ) → chain_from s 0 ≡ []
chain_end_lem s = follow_nil (next_step s) (entries s)

-- The run's outcome from a state: the steps made so far, and those that are left.
abbrev outcome : List ℕ → List ℕ → Frames ℕ → ℕ → ℕ → ℕ → Outcome ℕ
outcome v s frames last at steps =
    run (numbered v s) (record_step s) frames last (chain_from s at) then accepted (steps + length (chain_from s at))

pub record Walk (v s : List ℕ) (whole : Outcome ℕ) (frames : Frames ℕ) (last at steps : ℕ) : Type 0 where
  pub reached : Reached s at
  pub run : whole ≡ outcome v s frames last at steps
  pub few : steps + length (chain_from s at) ≤ suc entry_limit

module _ (v s : List ℕ) (f : KeepsForm v s) where
  pub chain_at : (i : ℕ) → IsStep s i → chain_from s i ≡ i ∷ chain_from s (next_step s i)
  chain_at i t = follow-step (next_step s) (IsStepAt s) (entries s) f.links 0 i (step_ahead s i t)

  onward : (i : ℕ) → IsStep s i → Onward (IsStepAt s) (entries s) i (next_step s i)
  onward i t = f.links i t.positive t.within t.step

  pub next-reached : (i : ℕ) → IsStep s i → Reached s (next_step s i)
  next-reached i t = reached s i (next_step s i) (onward i t)

  pub walk_falls : (i x : ℕ) → IsStep s i → x ≡ next_step s i → left (entries s) x < left (entries s) i
  walk_falls i x t e =
      left_falls (IsStepAt s) (entries s) i x t.positive t.within
      (subst (Onward (IsStepAt s) (entries s) i) (sym e) (onward i t))

  pub walk_start : (frames shown : Frames ℕ) (first next : ℕ) → IsStep s first → shown ≡ frames → next ≡ next_step s first
      → Walk v s (run_after v s frames first) shown first next 1
  walk_start frames shown first next t e n =
      let one : 1 + length (steps_after s first) ≡ suc (length (steps_after s first)) = omega arith in
      record {
        reached = rw n (next-reached first t);
        run = rw (e, n, one);
        few = omega (arith, chain-few s next, f.sized.most);
      }

  module _ (whole : Outcome ℕ) (frames : Frames ℕ) (last at steps : ℕ) (w : Walk v s whole frames last at steps) where
    abbrev check : Check
    check = step_check (numbered v s) at frames (record_step s at)

    abbrev next : Frames ℕ
    next = stepped (numbered v s) frames (record_step s at)

    -- the outcome, one step further
    further : IsStep s at
        → outcome v s frames last at steps
        ≡ ((check then run (numbered v s) (record_step s) next at (steps_after s at))
        then accepted (suc steps + length (steps_after s at)))
    unfolding run
    further t =
        let rest = length (steps_after s at) in
        let n : steps + suc rest ≡ suc steps + rest = omega arith in
        rw (chain_at at t, n)

    pub walk_next : (k : Check) (after : Frames ℕ) (x : ℕ) → IsStep s at → k ≡ check → k ≡ pass → after ≡ next
        → x ≡ next_step s at → Walk v s whole after at x (steps + 1)
    walk_next k after x t e p a n =
        let passed : check ≡ pass = sym e ∙ p in
        let one : steps + 1 ≡ suc steps = omega arith in
        let few : steps + suc (length (steps_after s at)) ≤ suc entry_limit
        = subst (λ (l : List ℕ). steps + length l ≤ suc entry_limit) (chain_at at t) w.few in
        record {
          reached = rw n (next-reached at t);
          run = w.run ∙ (further t ∙ rw (passed, a, n, one));
          few = rw n (omega arith);
        }

    pub walk_refused : (n p : ℕ) → IsStep s at → refused n p ≡ check → refused n p ≡ whole
    walk_refused n p t e = sym (w.run ∙ (further t ∙ rw (← e)))

pub walk_done : (v s : List ℕ) (whole : Outcome ℕ) (frames : Frames ℕ) (last at steps : ℕ)
    → Walk v s whole frames last at steps → at ≡ 0 → (require (is_nil frames) 24 last then accepted steps) ≡ whole
unfolding run
walk_done v s whole frames last at steps w z =
    let none : chain_from s at ≡ [] = rw z (chain_end_lem s) in
    let same : steps + 0 ≡ steps = omega arith in
    sym (w.run ∙ rw (none, same))
