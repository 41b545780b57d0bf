-- Along the chain: rows 20 to 25, and the script check.
use Rattle.std.specs.Prelude.{ℕ, suc, ◌-◌, Bool, true, false, not, ◌&&◌, ◌||◌, List, [], ◌∷◌, length, get_or, ltb}
use Rattle.records.specs.Finite.{is_nil, without}
use Rattle.records.specs.Outcome.{Outcome, Check, accepted, refused, ◌then◌, require}
use Rattle.records.specs.Check.{vocabulary_check}
use Rattle.columns.specs.Literals.{SkolemTerm, Literal, complementary, no_literal}
use Rattle.columns.specs.Columns.{Query}
use Rattle.scripts.specs.Steps.{Extension, Step, start, extension, reduction, step_by}
use Rattle.scripts.specs.Format.{query_of, term_at, record_step, chain}
use Rattle.scripts.specs.Form.{form_check}
use Rattle.scripts.specs.Calculus.{used_column, start_column, frame_limit}

abbrev pub is_start : {A : Type 0} → Step A → Bool
is_start (start n) = true
is_start (extension e) = false
is_start (reduction f) = false

-- The open literals of each frame: the last frame first, in each frame the goal first.
abbrev pub Frames : Type 0 → Type 0
Frames L = List (List L)

-- The frames once the goal is closed: "A frame whose literals are all closed goes, and closes the goal under it."
unfoldable pub close : {L : Type 0} → Frames L → Frames L
close [] = []
close ([] ∷ frames) = close frames
close ((g ∷ []) ∷ frames) = close frames
close ((g ∷ l ∷ rest) ∷ frames) = (l ∷ rest) ∷ frames

-- "the column's other literals become the next frame, or, if there are none, the goal is closed"
unfoldable pub extend_by : {L : Type 0} → List L → Frames L → Frames L
extend_by [] frames = close frames
extend_by (l ∷ rest) frames = (l ∷ rest) ∷ frames

-- What a run is over, where A are its terms and L its literals: the column that an extension uses, a start's column, when two
-- literals are complements, what stands where there is no literal.
pub record Setting (A L : Type 0) : Type 0 where
  pub uses : Extension A → List L
  pub starts : ℕ → List L
  pub opposed : L → L → Bool
  pub nothing : L

module _ {A L : Type 0} (g : Setting A L) where
  -- A frame's goal is its first open literal; frames are counted from the start.
  abbrev pub goal_of : List L → L
  goal_of frame = get_or frame 0 g.nothing

  abbrev pub frame_at : Frames L → ℕ → List L
  frame_at frames f = get_or frames (length frames - suc f) []

  -- "The goal is always the first open literal of the last frame."
  abbrev pub goal : Frames L → L
  goal frames = goal_of (get_or frames 0 [])

  -- The literal at an extension's position, and the others of its column: Calculus' `connected_literal` and `remainder`, over
  -- any literals.
  abbrev pub connected_in : Extension A → L
  connected_in e = get_or (g.uses e) e.position g.nothing

  abbrev pub remainder_in : Extension A → List L
  remainder_in e = without e.position (g.uses e)

  -- Row 21: "Extension needs the literal at its position to be the complement of the goal, equal terms included".
  abbrev pub connects : Frames L → Step A → Bool
  connects frames (start n) = true
  connects frames (extension e) = g.opposed (connected_in e) (goal frames)
  connects frames (reduction f) = true

  -- Row 22: "Reduction needs a frame below the last, whose own goal is the complement."
  abbrev pub reduces : Frames L → Step A → Bool
  reduces frames (start n) = true
  reduces frames (extension e) = true
  reduces frames (reduction f) = ltb (suc f) (length frames) && g.opposed (goal_of (frame_at frames f)) (goal frames)

  -- Row 23: "a 65th frame"
  abbrev pub has_room : Frames L → Step A → Bool
  has_room frames (start n) = true
  has_room frames (extension e) = is_nil (remainder_in e) || ltb (length frames) frame_limit
  has_room frames (reduction f) = true

  -- "Along the chain the five are tried at each step before the next": 25 "step after all is closed", 20 "a later one".
  unfoldable pub step_check : ℕ → Frames L → Step A → Check
  step_check i frames step =
      require (not (is_nil frames)) 25 i
      then require (not (is_start step)) 20 i
      then require (connects frames step) 21 i
      then require (reduces frames step) 22 i
      then require (has_room frames step) 23 i

  -- The frames after a step that passed; "Start opens frame 0 with its column."
  unfoldable pub stepped : Frames L → Step A → Frames L
  stepped frames (start n) = g.starts n ∷ []
  stepped frames (extension e) = extend_by (remainder_in e) frames
  stepped frames (reduction f) = close frames

  -- The run of records whose steps are given.
  module _ (steps : ℕ → Step A) where
    -- Those after `last`. "Acceptance .. comes when the chain ends with no frame left": 24 "a frame left", place the last step.
    unfoldable pub run : Frames L → ℕ → List ℕ → Check
    run frames last [] = require (is_nil frames) 24 last
    run frames last (i ∷ rest) = step_check i frames (steps i) then run (stepped frames (steps i)) i rest

    -- Row 20: "no first start", "0 if no step"
    unfoldable pub chain_check : List ℕ → Check
    chain_check [] = refused 20 0
    chain_check (i ∷ rest) = require (is_start (steps i)) 20 i then run (stepped [] (steps i)) i rest

-- The paper's run: "terms are written out".
abbrev pub written_out : List ℕ → Query → Setting SkolemTerm (Literal SkolemTerm)
written_out v q =
    record { uses = used_column v q; starts = start_column v q; opposed = complementary; nothing = no_literal }

abbrev pub step_at : List ℕ → ℕ → Step SkolemTerm
step_at s i = step_by (term_at s) (record_step s i)

-- The order is "for a script check 1 to 8, 13, 14, 10, then 15 on"; acceptance goes "with the number of steps".
unfoldable pub script_check : List ℕ → List ℕ → Outcome ℕ
script_check v s =
    vocabulary_check v
    then form_check v s
    then chain_check (written_out v (query_of s)) (step_at s) (chain s)
    then accepted (length (chain s))
