-- One step of the run over numbers, from what the code's tests tell.
--   step_starting, step_extending, step_reducing   the step of a record that was read, by its kind
--   step_neither, step_other                       one that is no extension or reduction; a step that is no start
--   extension-rows, reduction-rows, start-rows     the rows at a step
--   extension-after, reduction-after               the frames after it
-- Assumes nothing.
use Prim.Native.Nat.{ℕ}
use native.Mathlib.Omega.{arith}
use mathlib.Core.Path.{◌≡◌, refl, sym}
use mathlib.Core.Bool.{true, false}
use mathlib.Core.List.{List}
use lib.Dec.{leb}
use borrow.Author.Tests.{leb-true}
use Rattle.records.specs.Outcome.{refused, require}
use Rattle.records.specs.Finite.{is_nil}
use Rattle.records.proofs.Laws.Checks.{then_pass}
use Rattle.records.proofs.Laws.Tests.{clash, both_right}
use Rattle.scripts.specs.Steps.{Extension, start, extension, reduction}
use Rattle.scripts.specs.Format.{entry_at, extension_of, kind_of, is_step, step_of, record_step}
use Rattle.scripts.specs.Run.{is_start, Frames, close, step_check, stepped}
use Rattle.scripts.specs.Code.Numbered.{numbered, used_numbers}
use Rattle.scripts.specs.Code.Tested.{extension_check, extended, reduces_to}
use Rattle.scripts.specs.Code.Ready.{IsStep}
use Rattle.scripts.specs.declared.entry.Entry.{Entry}
use Rattle.scripts.proofs.Refinement.Lines.{by_kind}

-- The step of a record that was read.
module _ (s : List ℕ) (i : ℕ) (e : Entry) (read : e ≡ entry_at s i) where
  pub step_starting : e.w0 ≡ 3 → record_step s i ≡ start e.w1
  unfolding kind_of
  step_starting h = rw (← read, h)

  pub step_extending : e.w0 ≡ 4 → record_step s i ≡ extension (extension_of e)
  unfolding kind_of
  step_extending h = rw (← read, h)

  pub step_reducing : e.w0 ≡ 5 → record_step s i ≡ reduction e.w1
  unfolding kind_of
  step_reducing h = rw (← read, h)

  pub step_neither : (e.w0 ≡ 4 → ⊥) → (e.w0 ≡ 5 → ⊥) → is_start (record_step s i) ≡ true
  unfolding kind_of
  step_neither h l =
      rw (← read)
      (by_kind (λ k x. (k ≡ 4 → ⊥) → (k ≡ 5 → ⊥) → is_start (step_of (x.says e)) ≡ true)
      (λ m n. refl, (λ m n. refl, (λ m n. refl, (λ m n. refl, (λ m n. absurd (m refl), (λ m n. absurd (n refl), tt))))))
      (λ k p m n. refl) e.w0 h l)

  pub step_other : IsStep s i → (e.w0 ≡ 3 → ⊥) → is_start (record_step s i) ≡ false
  unfolding kind_of
  step_other t h =
      rw (← read)
      (by_kind (λ k x. is_step k ≡ true → (k ≡ 3 → ⊥) → is_start (step_of (x.says e)) ≡ false) (
        λ q n. absurd (clash (cc)),
        (
          λ q n. absurd (clash (cc)),
          (λ q n. absurd (clash (cc)), (λ q n. absurd (n refl), (λ q n. refl, (λ q n. refl, tt)))),
        ),
      )
      (λ k p q n. absurd (omega (arith, leb-true k 5 (both_right (leb 3 k) (leb k 5) q))))
      e.w0 (rw read t.step) h)

-- Its rows, where a frame is open, and the frames after it.
module _ (v s : List ℕ) (i : ℕ) (frames : Frames ℕ) where
  pub extension-rows : (e : Extension ℕ) → record_step s i ≡ extension e → is_nil frames ≡ false
      → extension_check (used_numbers v s e) e.position i frames ≡ step_check (numbered v s) i frames (record_step s i)
  unfolding step_check
  extension-rows e h q = rw (h, q)

  pub reduction-rows : (f : ℕ) → record_step s i ≡ reduction f → is_nil frames ≡ false
      → require (reduces_to frames f) 22 i ≡ step_check (numbered v s) i frames (record_step s i)
  unfolding step_check
  reduction-rows f h q = rw (h, q) (sym (then_pass (require (reduces_to frames f) 22 i)))

  pub start-rows : is_start (record_step s i) ≡ true → is_nil frames ≡ false
      → refused 20 i ≡ step_check (numbered v s) i frames (record_step s i)
  unfolding step_check
  start-rows h q = rw (h, q)

  pub extension-after : (e : Extension ℕ) → record_step s i ≡ extension e
      → extended (used_numbers v s e) e.position frames ≡ stepped (numbered v s) frames (record_step s i)
  unfolding stepped
  extension-after e h = rw h

  pub reduction-after : (f : ℕ) → record_step s i ≡ reduction f → close frames ≡ stepped (numbered v s) frames (record_step s i)
  unfolding stepped
  reduction-after f h = rw h
