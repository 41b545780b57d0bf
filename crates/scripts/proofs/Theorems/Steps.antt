-- A step at the goal: what it takes to pass, and what it leaves. The frames are `(l ∷ c) ∷ frames`: the goal is l, and c stays
-- open beside it.
--   Literals, OpenFrames, Steps, goals       a column's open literals; frames of them; steps; the path that goals of frames make
--   room, room_under                         a column may open above n frames: an empty one always, any other under the limit
--   close-goal, goal-below                   the goal closed, c is open; a frame's goal, counted as the path counts
--   complement-true                          a literal that is the complement passes the test
--   reduction-passes                         a reduction of the calculus passes
--   reduction_succeeds, extension_succeeds   a step of the calculus passes, and the steps after it run from what it leaves
--   passes-reduction, passes-extension       a step that passes is one of the calculus
--   succeeds_reduction, succeeds_extension   and the steps after it pass from what it leaves
--   start_open                               start opens a query column above no frame
-- Assumes nothing.
use Prim.Native.Nat.{ℕ, zero, suc, ◌-◌, ◌<◌, ◌≤◌}
use native.Mathlib.Omega.{arith}
use mathlib.Core.Path.{◌≡◌, refl, ap, sym, ◌∙◌}
use mathlib.Core.Bool.{Bool, true, ◌&&◌, ◌||◌}
use mathlib.Core.List.{List, [], ◌∷◌, map}
use lib.ListN.{length, get_or, length-map, get_or-map}
use lib.Dec.{ltb}
use borrow.Author.Tests.{lt-ltb, ltb-true}
use Rattle.records.proofs.Laws.Tests.{both_left, both_right}
use Rattle.columns.specs.Literals.{SkolemTerm, Literal, complement, complementary, no_literal}
use Rattle.columns.specs.Columns.{Query, columns_at}
use Rattle.columns.proofs.Theorems.Literals.{complementary-true, complementary-complement}
use Rattle.scripts.specs.Steps.{Extension, Step, start, extension, reduction}
use Rattle.scripts.specs.Calculus.{connected_literal, remainder, on_path, frame_limit, start_column}
use Rattle.scripts.specs.Run.{Frames, close, extend_by, stepped, written_out}
use Rattle.records.specs.Finite.{is_nil}
use Rattle.scripts.proofs.Theorems.Tests.{step_passes, succeeds}

abbrev pub Literals : Type 0
Literals = List (Literal SkolemTerm)

abbrev pub OpenFrames : Type 0
OpenFrames = Frames (Literal SkolemTerm)

abbrev pub Steps : Type 0
Steps = List (Step SkolemTerm)

-- a frame's goal
abbrev first_open : Literals → Literal SkolemTerm
first_open frame = get_or frame 0 no_literal

abbrev pub goals : OpenFrames → Literals
goals frames = map first_open frames

abbrev pub room : Literals → ℕ → Bool
room c n = is_nil c || ltb n frame_limit

pub room_under : (c : Literals) (n : ℕ) → n < frame_limit → room c n ≡ true
room_under [] n h = refl
room_under (l ∷ c) n h = lt-ltb n frame_limit h

pub close-goal : (l : Literal SkolemTerm) (c : Literals) (frames : OpenFrames) → close ((l ∷ c) ∷ frames) ≡ extend_by c frames
unfolding close extend_by
close-goal l [] frames = refl
close-goal l (m ∷ c) frames = refl

-- the goal of frame f, frames being counted from the start
abbrev goal_at : OpenFrames → ℕ → Literal SkolemTerm
goal_at frames f = first_open (get_or frames (length frames - suc f) [])

goal-below : (frame : Literals) (frames : OpenFrames) (f : ℕ) → f < length (goals frames)
    → goal_at (frame ∷ frames) f ≡ on_path (goals frames) f
goal-below frame frames f h =
    let e : suc (length frames) - suc f ≡ suc (length frames - suc f) = omega (arith, length-map frames first_open) in
    rw (e, length-map, get_or-map first_open frames (length frames - suc f) [])

complement-true : (m l : Literal SkolemTerm) → m ≡ complement l → complementary m l ≡ true
complement-true m l e = rw e (complementary-complement l)

module _ (v : List ℕ) (q : Query) (l : Literal SkolemTerm) (c : Literals) (frames : OpenFrames) where
  -- what row 22 asks of a reduction
  abbrev below : ℕ → Bool
  below f = ltb (suc f) (suc (length frames))

  abbrev reduces-goal : ℕ → Bool
  reduces-goal f = complementary (goal_at ((l ∷ c) ∷ frames) f) l

  reduction-passes : (f : ℕ) → f < length (goals frames) → on_path (goals frames) f ≡ complement l
      → step_passes (written_out v q) ((l ∷ c) ∷ frames) (reduction f) ≡ true
  reduction-passes f h e =
      let m : below f ≡ true = lt-ltb (suc f) (suc (length frames)) (omega (arith, length-map frames first_open)) in
      rw (m, complement-true (goal_at ((l ∷ c) ∷ frames) f) l (goal-below (l ∷ c) frames f h ∙ e))

  pub reduction_succeeds : (f : ℕ) (rest : Steps) → f < length (goals frames) → on_path (goals frames) f ≡ complement l
      → succeeds (written_out v q) (reduction f ∷ rest) ((l ∷ c) ∷ frames) ≡ succeeds (written_out v q) rest (extend_by c frames)
  unfolding succeeds stepped
  reduction_succeeds f rest h e = rw (reduction-passes f h e, close-goal l c frames)

  pub extension_succeeds : (e : Extension SkolemTerm) (rest : Steps) → connected_literal v q e ≡ complement l
      → room (remainder v q e) (suc (length frames)) ≡ true
      → succeeds (written_out v q) (extension e ∷ rest) ((l ∷ c) ∷ frames)
      ≡ succeeds (written_out v q) rest (extend_by (remainder v q e) ((l ∷ c) ∷ frames))
  unfolding succeeds stepped
  extension_succeeds e rest p r = rw (complement-true (connected_literal v q e) l p, r)

  passes-reduction : (f : ℕ) → step_passes (written_out v q) ((l ∷ c) ∷ frames) (reduction f) ≡ true
      → (f < length (goals frames)) × (on_path (goals frames) f ≡ complement l)
  passes-reduction f p =
      let e = both_left (below f && reduces-goal f) true p in
      let m = ltb-true (suc f) (suc (length frames)) (both_left (below f) (reduces-goal f) e) in
      let h : f < length (goals frames) = omega (arith, m, length-map frames first_open) in
      let k = complementary-true (goal_at ((l ∷ c) ∷ frames) f) l (both_right (below f) (reduces-goal f) e) in
      (h, sym (goal-below (l ∷ c) frames f h) ∙ k)

  pub succeeds_reduction : (f : ℕ) (rest : Steps) → succeeds (written_out v q) (reduction f ∷ rest) ((l ∷ c) ∷ frames) ≡ true
      → ((f < length (goals frames)) × (on_path (goals frames) f ≡ complement l))
      × (succeeds (written_out v q) rest (extend_by c frames) ≡ true)
  unfolding succeeds stepped
  succeeds_reduction f rest p =
      let fit = step_passes (written_out v q) ((l ∷ c) ∷ frames) (reduction f) in
      let next = succeeds (written_out v q) rest (close ((l ∷ c) ∷ frames)) in (
        passes-reduction f (both_left fit next p),
        ap (succeeds (written_out v q) rest) (sym (close-goal l c frames)) ∙ both_right fit next p,
      )

  passes-extension : (e : Extension SkolemTerm) → step_passes (written_out v q) ((l ∷ c) ∷ frames) (extension e) ≡ true
      → (connected_literal v q e ≡ complement l) × (room (remainder v q e) (suc (length frames)) ≡ true)
  passes-extension e p =
      let connects = complementary (connected_literal v q e) l in
      let free = room (remainder v q e) (suc (length frames)) in
      (complementary-true (connected_literal v q e) l (both_left connects free p), both_right connects free p)

  pub succeeds_extension : (e : Extension SkolemTerm) (rest : Steps)
      → succeeds (written_out v q) (extension e ∷ rest) ((l ∷ c) ∷ frames) ≡ true
      → ((connected_literal v q e ≡ complement l) × (room (remainder v q e) (suc (length frames)) ≡ true))
      × (succeeds (written_out v q) rest (extend_by (remainder v q e) ((l ∷ c) ∷ frames)) ≡ true)
  unfolding succeeds stepped
  succeeds_extension e rest p =
      let fit = step_passes (written_out v q) ((l ∷ c) ∷ frames) (extension e) in
      let next = succeeds (written_out v q) rest (extend_by (remainder v q e) ((l ∷ c) ∷ frames)) in
      (passes-extension e (both_left fit next p), both_right fit next p)

pub start_open : (v : List ℕ) (q : Query) (n : ℕ) → n ≤ 1
    → stepped (written_out v q) [] (start n) ≡ extend_by (start_column v q n) []
unfolding stepped extend_by columns_at
start_open v q zero h = refl
start_open v q (suc zero) h = refl
start_open v q (suc (suc n)) h = absurd (omega arith)
