-- Vocabularies that look alike have the same survivors, after as many rounds.
--   allowed_alike                                the pairs allowed for a role
--   witnessed_alike, served_alike                which types a set serves
--   satisfies_alike                              at which types the statements in force hold
--   round_alike, removes_alike                   a round
--   stage_alike, rounds_alike, survivors_alike   all of them
--   bitmap_alike                                 the bitmap
-- Assumes nothing.
use Prim.Native.Nat.{ℕ, zero, suc}
use mathlib.Core.Path.{◌≡◌, refl, ap, ap₂, fun_ext, ◌∙◌}
use mathlib.Core.Bool.{Bool, true, false, not, ◌||◌, or-true}
use mathlib.Core.List.{List}
use Rattle.records.specs.Format.{record_at, count}
use Rattle.records.specs.Kinds.{is_statement}
use Rattle.records.specs.Chain.{in_force}
use Rattle.records.specs.Finite.{any_below, all_below, least, table}
use Rattle.records.proofs.Theorems.Accepted.{AcceptedFacts}
use Rattle.types.specs.Meaning.{Restriction, some, all, plain, restriction_at}
use Rattle.types.specs.Types.{truth, allows, allowed, witnessed, met, served}
use Rattle.types.specs.Survivors.{satisfies, round, removes, stage, rounds, survivors}
use Rattle.types.specs.Comparison.{bitmap_bytes}
use Rattle.types.specs.Bitmap.{byte_of, bitmap}
use Rattle.types.proofs.Theorems.Truth.{OverFiller, restricted}
use Rattle.columns.specs.Columns.{states}
use Rattle.alike.specs.Alike.{Alike}
use Rattle.alike.proofs.Theorems.Truth.{SameTruth, types_alike, restriction_alike, truth_alike, restriction-truth}
use Rattle.alike.proofs.Theorems.Truth.{filler_truth}

module _ (v w : List ℕ) where
  -- Two questions about record i, if it is the restriction k, that have one answer where the truths of i and of its filler are
  -- the same.
  abbrev Agree : (ℕ → Restriction → Bool) → (ℕ → Restriction → Bool) → Type 0
  Agree f g =
      (i : ℕ) (k : Restriction) → (restricted k ≡ true → SameTruth v w i) → OverFiller (SameTruth v w) k → f i k ≡ g i k

  allows_alike : (r t s : ℕ) → Agree (allows v r t s) (allows w r t s)
  allows_alike r t s i (some q b) own filler = rw (own refl t, filler s)
  allows_alike r t s i (all q b) own filler = rw (own refl t, filler s)
  allows_alike r t s i plain own filler = refl

module _ (v w : List ℕ) (alike : Alike v w) (good : AcceptedFacts v) (other : AcceptedFacts w) where
  -- such questions, asked of every record
  each : (f g : ℕ → Restriction → Bool) → Agree v w f g
      → all_below (λ i. f i (restriction_at v i)) (count v) ≡ all_below (λ i. g i (restriction_at w i)) (count w)
  each f g same =
      ap₂ all_below
      (fun_ext (λ i. same i (restriction_at v i) (restriction-truth v w alike good other i) (filler_truth v w alike good other i)
      ∙ ap (g i) (restriction_alike v w alike i)))
      alike.counts

  pub allowed_alike : (r t s : ℕ) → allowed v r t s ≡ allowed w r t s
  unfolding allowed
  allowed_alike r t s = each (allows v r t s) (allows w r t s) (allows_alike v w r t s)

  pub witnessed_alike : (S : List Bool) (t r : ℕ) (f g : ℕ → Bool) → ((s : ℕ) → f s ≡ g s)
      → witnessed v S t r f ≡ witnessed w S t r g
  witnessed_alike S t r f g same =
      ap₂ any_below (fun_ext (λ s. rw (allowed_alike r t s, same s))) (types_alike v w alike)

  met_alike : (S : List Bool) (t : ℕ) → Agree v w (met v S t) (met w S t)
  met_alike S t i (some r b) own filler =
      rw (own refl t, witnessed_alike S t r (λ s. truth v s b) (λ s. truth w s b) filler)
  met_alike S t i (all r b) own filler =
      rw (
        own refl t,
        witnessed_alike S t r (λ s. not (truth v s b)) (λ s. not (truth w s b)) (λ s. ap not (filler s)),
      )
  met_alike S t i plain own filler = refl

  pub served_alike : (S : List Bool) (t : ℕ) → served v S t ≡ served w S t
  unfolding served
  served_alike S t = each (met v S t) (met w S t) (met_alike S t)

  -- a statement in force has the same truth, and no other counts
  holds_alike : (t i : ℕ) → (not (in_force v i) || truth v t i) ≡ (not (in_force w i) || truth w t i)
  holds_alike t i = at (in_force v i) refl
    where
      at : (b : Bool) → in_force v i ≡ b → (not (in_force v i) || truth v t i) ≡ (not (in_force w i) || truth w t i)
      at true e =
          let may : states v i ≡ true = rw e (or-true (not (is_statement (record_at v i).kind))) in
          rw (alike.forces i, truth_alike v w alike good other i may t)
      at false e = rw (← alike.forces i, e)

  pub satisfies_alike : (t : ℕ) → satisfies v t ≡ satisfies w t
  unfolding satisfies
  satisfies_alike t = ap₂ all_below (fun_ext (holds_alike t)) alike.counts

  pub round_alike : (S : List Bool) → round v S ≡ round w S
  round_alike S = ap₂ table (types_alike v w alike) (fun_ext (λ t. rw (served_alike S t)))

  pub removes_alike : (S : List Bool) → removes v S ≡ removes w S
  removes_alike S = ap₂ any_below (fun_ext (λ t. rw (served_alike S t))) (types_alike v w alike)

  pub stage_alike : (n : ℕ) → stage v n ≡ stage w n
  unfolding stage
  stage_alike zero = ap₂ table (types_alike v w alike) (fun_ext satisfies_alike)
  stage_alike (suc n) = ap (round v) (stage_alike n) ∙ round_alike (stage w n)

  pub rounds_alike : rounds v ≡ rounds w
  unfolding rounds
  rounds_alike =
      ap₂ least (fun_ext (λ n. ap not (ap (removes v) (stage_alike n) ∙ removes_alike (stage w n)))) (types_alike v w alike)

  pub survivors_alike : survivors v ≡ survivors w
  unfolding survivors
  survivors_alike = stage_alike (rounds v) ∙ ap (stage w) rounds_alike

  pub bitmap_alike : bitmap v ≡ bitmap w
  unfolding bitmap
  bitmap_alike = ap (λ (S : List Bool). table bitmap_bytes (byte_of S)) survivors_alike
