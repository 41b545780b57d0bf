-- The open frames of a machine, as the code keeps them.
--   nil_frames                                       no frame is open where their number is 0
--   frames-length                                    there are as many frames as are asked for
--   goal_last, goal-below                            their goals
--   frames_single, frames_pair                       a frame of one literal or two is written, and those under it are as before
--   close-all, close-back                            the goal closed: no frame is left; the last with another open literal is
--   depth-length, goal-shown, below-shown, below-none   what the machine's parts tell of the frames that it shows
-- Assumes nothing.
use Prim.Native.Nat.{ℕ, zero, suc, ◌-◌, ◌<◌, ◌≤◌}
use native.Mathlib.Omega.{arith}
use native.Mathlib.Decide.{ℕ_discrete}
use mathlib.Core.Path.{◌≡◌, refl, ap, sym, subst, ◌∙◌}
use mathlib.Core.Bool.{Bool, true, false, cond}
use mathlib.Core.List.{List, [], ◌∷◌}
use lib.ListN.{length, get_or, set}
use lib.Dec.{eqb}
use lib.Seq.{get_or-set_same, get_or-set_other}
use borrow.Author.Tests.{eq-eqb, ne_eqb, lt-ltb, le-ltb}
use Rattle.std.specs.Prelude.{Some, None}
use Rattle.records.specs.Finite.{is_nil}
use Rattle.scripts.specs.Run.{Frames, close}
use Rattle.scripts.specs.Code.Numbered.{no_number}
use Rattle.scripts.specs.Code.Machine.{last_goal, below_last, frame_of, unopened, opened_at, frames_from}
use Rattle.scripts.specs.declared.machine.Frame.{Frame}

pub nil_frames : (frames : Frames ℕ) (n : ℕ) → n ≡ length frames → eqb n 0 ≡ is_nil frames
nil_frames [] n e = rw e
nil_frames (f ∷ frames) n e = ne_eqb n 0 (λ z. omega arith)

frame_goal : (b : Bool) (g o d : ℕ) → get_or (frame_of b g o) 0 d ≡ g
frame_goal true g o d = refl
frame_goal false g o d = refl

module _ (opened : List Frame) where
  pub frames-length : (goal back n : ℕ) → length (frames_from opened goal back n) ≡ n
  unfolding frames_from
  frames-length goal back zero = refl
  frames-length goal back (suc n) =
      ap suc (frames-length (opened_at opened n).below (cond (eqb back (suc n)) (opened_at opened n).back back) n)

  pub goal_last : (goal back n d : ℕ) → 0 < n → get_or (get_or (frames_from opened goal back n) 0 []) 0 d ≡ goal
  unfolding frames_from
  goal_last goal back zero d h = absurd (omega arith)
  goal_last goal back (suc n) d h = frame_goal (eqb back (suc n)) goal (opened_at opened n).other d

  pub goal-below : (goal back n f d : ℕ) → suc f < n
      → get_or (get_or (frames_from opened goal back n) (n - suc f) []) 0 d ≡ (opened_at opened (suc f)).below
  unfolding frames_from
  goal-below goal back zero f d h = absurd (omega arith)
  goal-below goal back (suc n) f d h = at (goal-below (opened_at opened n).below after n f d) (ℕ_discrete (suc f) n)
    where
      after : ℕ
      after = cond (eqb back (suc n)) (opened_at opened n).back back

      under : Frames ℕ
      under = frames_from opened (opened_at opened n).below after n

      at : (suc f < n → get_or (get_or under (n - suc f) []) 0 d ≡ (opened_at opened (suc f)).below) → Dec (suc f ≡ n)
          → get_or (get_or (frames_from opened goal back (suc n)) (suc n - suc f) []) 0 d ≡ (opened_at opened (suc f)).below
      at lower (yes e) =
          let z : suc n - suc f ≡ 1 = omega arith in
          rw (z, e) (goal_last (opened_at opened n).below after n d (omega arith))
      at lower (no q) = let z : suc n - suc f ≡ suc (n - suc f) = omega arith in rw z (lower (omega arith))

  -- Arrays that have the same below n have the same first n frames.
  frames-same : (other : List Frame) (n : ℕ) → ((f : ℕ) → f < n → opened_at other f ≡ opened_at opened f)
      → (goal back m : ℕ) → m ≤ n → frames_from other goal back m ≡ frames_from opened goal back m
  unfolding frames_from
  frames-same other n same goal back zero h = refl
  frames-same other n same goal back (suc m) h =
      rw (same m (omega arith))
      (ap (λ (fs : Frames ℕ). frame_of (eqb back (suc m)) goal (opened_at opened m).other ∷ fs)
      (frames-same other n same (opened_at opened m).below _ m (omega arith)))

  -- Frame n is opened with x; m is the depth then.
  module _ (n m : ℕ) (e : m ≡ suc n) (h : n < length opened) (x : Frame) where
    under-same : (goal back : ℕ) → frames_from (set opened n x) goal back n ≡ frames_from opened goal back n
    under-same goal back =
        frames-same (set opened n x) n (λ f l. get_or-set_other opened n f x unopened (λ q. omega arith)) goal back n
        (omega arith)

    pub frames_single : (back g : ℕ) → back ≤ n
        → frames_from (set opened n x) g back m ≡ (g ∷ []) ∷ frames_from opened x.below back n
    unfolding frames_from
    frames_single back g behind =
        rw (e, ne_eqb back (suc n) (λ q. omega arith), get_or-set_same opened n x unopened h)
        (ap (λ (fs : Frames ℕ). (g ∷ []) ∷ fs) (under-same x.below back))

    pub frames_pair : (g : ℕ) → frames_from (set opened n x) g m m
        ≡ (g ∷ x.other ∷ []) ∷ frames_from opened x.below x.back n
    unfolding frames_from
    frames_pair g =
        rw (e, eq-eqb (suc n) (suc n) refl, get_or-set_same opened n x unopened h)
        (ap (λ (fs : Frames ℕ). (g ∷ x.other ∷ []) ∷ fs) (under-same x.below x.back))

    -- A frame that is opened leads back to one below.
    pub backs-set : x.back ≤ n → ((f : ℕ) → (opened_at opened f).back ≤ f) → (f : ℕ) → (opened_at (set opened n x) f).back ≤ f
    backs-set k falls f = at (ℕ_discrete f n)
      where
        at : Dec (f ≡ n) → (opened_at (set opened n x) f).back ≤ f
        at (yes q) = rw (q, get_or-set_same opened n x unopened h) k
        at (no q) = rw (get_or-set_other opened n f x unopened q) (falls f)

  close-zero : (goal n : ℕ) → close (frames_from opened goal 0 n) ≡ []
  unfolding close frames_from
  close-zero goal zero = refl
  close-zero goal (suc n) = rw (ne_eqb 0 (suc n) (λ q. omega arith)) (close-zero (opened_at opened n).below n)

  -- The goal is closed: no frame has another open literal.
  pub close-all : (goal back n g b : ℕ) → back ≡ 0
      → frames_from opened g b back ≡ close (frames_from opened goal back n)
  unfolding frames_from
  close-all goal back n g b e = rw e (sym (close-zero goal n))

  -- Frame m is the last that has one.
  module _ (falls : (f : ℕ) → (opened_at opened f).back ≤ f) (m : ℕ) where
    abbrev left_open : Frames ℕ
    left_open = frames_from opened (opened_at opened m).other (opened_at opened m).back (suc m)

    close-suc : (goal n : ℕ) → suc m ≤ n → left_open ≡ close (frames_from opened goal (suc m) n)
    unfolding close frames_from
    close-suc goal zero h = absurd (omega arith)
    close-suc goal (suc n) h = at (close-suc (opened_at opened n).below n) (ℕ_discrete m n)
      where
        at : (suc m ≤ n → left_open ≡ close (frames_from opened (opened_at opened n).below (suc m) n)) → Dec (m ≡ n)
            → left_open ≡ close (frames_from opened goal (suc m) (suc n))
        at under (yes e) =
            rw (e, eq-eqb (suc n) (suc n) refl, ne_eqb (opened_at opened n).back (suc n) (λ q. omega (arith, falls n)))
        at under (no q) = rw (ne_eqb (suc m) (suc n) (λ e. q (omega arith))) (under (omega arith))

    pub close-back : (goal back n : ℕ) → back ≡ suc m → back ≤ n
        → frames_from opened (opened_at opened m).other (opened_at opened m).back back
        ≡ close (frames_from opened goal back n)
    close-back goal back n e h = rw e (close-suc goal n (omega arith))

-- The frames that a machine's parts stand for.
module _ (opened : List Frame) (goal back n : ℕ) (frames : Frames ℕ) (view : frames_from opened goal back n ≡ frames) where
  pub depth-length : length frames ≡ n
  depth-length = ap length (sym view) ∙ frames-length opened goal back n

  pub goal-shown : 0 < length frames → goal ≡ last_goal frames
  goal-shown h = sym (goal_last opened goal back n no_number (subst (λ (d : ℕ). 0 < d) depth-length h)) ∙ ap last_goal view

  pub below-shown : (f : ℕ) → suc f < n → Some (opened_at opened (suc f)).below ≡ below_last frames f
  below-shown f l =
      rw (
        ← view,
        frames-length opened goal back n,
        lt-ltb (suc f) n l,
        goal-below opened goal back n f no_number l,
      )

  pub below-none : (f : ℕ) → n ≤ suc f → None ≡ below_last frames f
  below-none f l = rw (depth-length, le-ltb (suc f) n l)
