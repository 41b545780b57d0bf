-- What the code computes with: the open frames of a machine, whose literals are numbers.
use Rattle.std.specs.Prelude.{ℕ, zero, suc, ◌-◌, ◌≤◌, Bool, true, false, cond, List, [], ◌∷◌, length, get_or, eqb, ltb}
use Rattle.std.specs.Prelude.{Option, None, Some}
use Rattle.scripts.specs.Calculus.{frame_limit}
use Rattle.scripts.specs.Run.{Frames}
use Rattle.scripts.specs.Code.Numbered.{no_number}
use Rattle.scripts.specs.declared.machine.Frame.{Frame}
use Rattle.scripts.specs.declared.machine.Remainder.{Remainder}

-- The literals of a column but one: none, or a goal and the one after it.
abbrev pub others : Option ℕ → List ℕ
others None = []
others (Some l) = l ∷ []

abbrev pub left : Option Remainder → List ℕ
left None = []
left (Some r) = r.goal ∷ others r.other

-- The open literals of a frame: its goal, and its other literal where that is still open.
abbrev pub frame_of : Bool → ℕ → ℕ → List ℕ
frame_of true goal other = goal ∷ other ∷ []
frame_of false goal other = goal ∷ []

-- What stands where no frame was opened.
abbrev pub unopened : Frame
unopened = record { below = 0; other = 0; back = 0 }

-- The first n frames, the last of them first. `goal` is the goal of the last, `back` the number of frames up to the last that
-- has another open literal; 0 if none has. At f the array has what frame f was opened with: the goal of the frame under it, its
-- other literal, and `back` as it was then.
module _ (opened : List Frame) where
  abbrev pub opened_at : ℕ → Frame
  opened_at f = get_or opened f unopened

  unfoldable pub frames_from : ℕ → ℕ → ℕ → Frames ℕ
  frames_from goal back zero = []
  frames_from goal back (suc n) =
      frame_of (eqb back (suc n)) goal (opened_at n).other
      ∷ frames_from (opened_at n).below (cond (eqb back (suc n)) (opened_at n).back back) n

-- The frames are within the limit; `back` leads to one of them, and from each to one below it.
pub record Standing (opened : List Frame) (back depth : ℕ) : Type 0 where
  pub deep : depth ≤ frame_limit
  pub leads : back ≤ depth
  pub backs : (f : ℕ) → (opened_at opened f).back ≤ f

-- The goal of the last frame.
abbrev pub last_goal : Frames ℕ → ℕ
last_goal frames = get_or (get_or frames 0 []) 0 no_number

-- The goal of frame f, where that is a frame below the last.
abbrev pub below_last : Frames ℕ → ℕ → Option ℕ
below_last frames f =
    cond (ltb (suc f) (length frames)) (Some (get_or (get_or frames (length frames - suc f) []) 0 no_number)) None
