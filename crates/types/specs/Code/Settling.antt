-- What the comparison and the classification settle before their answers, as the code keeps it: lists, the data of each type,
-- and the tables that are lent from call to call. No promise of a call speaks of them.
use Rattle.std.specs.Prelude.{ℕ, ◌≤◌, ◌<◌, ◌≡◌, Bool, true, false, not, List, length, get_or, eqb}
use Rattle.std.specs.Bool.{beq}
use Rattle.records.specs.Format.{record_at, count}
use Rattle.records.specs.Check.{IsAccepted}
use Rattle.records.specs.Chain.{in_force}
use Rattle.records.specs.Atoms.{atoms}
use Rattle.types.specs.declared.type_data.TypeData.{TypeData}
use Rattle.types.specs.declared.decode.Rule.{Rule}
use Rattle.types.specs.declared.restrict.Restriction.{Restriction}
use Rattle.records.specs.Finite.{has, number, any_below}
use Rattle.types.specs.Types.{types, truth}
use Rattle.types.specs.Survivors.{satisfies, stage, survivors}
use Rattle.types.specs.Comparison.{atom_limit}
use Rattle.types.specs.Code.Rules.{Decoded, AtomsListed}
use Rattle.types.specs.Code.Words.{width, restriction, signed, negated, restriction_word, filler_word}
use Rattle.types.specs.Code.Words.{RestrictionWords, FillerWords, SameSet}

-- What is kept of restriction i: its place, its filler, its role and whether it is negated; nothing; a list of that.
abbrev pub kept_of : List ℕ → ℕ → Restriction
kept_of v i =
    record { place = i; filler = (record_at v i).b; role = (record_at v i).a; universal = negated v i }

abbrev pub no_restriction : Restriction
no_restriction = record { place = 0; filler = 0; role = 0; universal = false }

pub record RestrictionsListed (v : List ℕ) (list : List Restriction) (found : ℕ) : Type 0 where
  pub all : found ≡ width v
  pub kept : (m : ℕ) → m < found → get_or list m no_restriction ≡ kept_of v (restriction v m)

-- A list of the statements in force.
pub record Stating (v statements : List ℕ) (found : ℕ) : Type 0 where
  pub few : found ≤ count v
  pub within : (j : ℕ) → j < found → get_or statements j 0 < count v
  pub states : (j : ℕ) → j < found → in_force v (get_or statements j 0) ≡ true
  pub finds : (i : ℕ) → in_force v i ≡ true → any_below (λ j. eqb (get_or statements j 0) i) found ≡ true

-- What a call may go on with after the checks: an accepted vocabulary of k atoms, few enough; for a comparison, and two of its
-- records.
pub record Settleable (v : List ℕ) (k : ℕ) : Type 0 where
  pub accepts : IsAccepted v
  pub few : atoms v ≤ atom_limit
  pub counts : k ≡ atoms v

pub record Comparable (v : List ℕ) (a b k : ℕ) : Type 0 where
  pub settles : Settleable v k
  pub first : a < count v
  pub second : b < count v

-- What the data of a type is taken from: that, decoded, and its atoms, statements and restrictions listed.
pub record Prepared (v : List ℕ) (a b : ℕ) (code : List Rule) (places statements : List ℕ) (restrictions : List Restriction)
    : Type 0 where
  pub query : Comparable v a b (length places)
  pub whole : length code ≡ count v
  pub decoded : Decoded v code
  pub placed : AtomsListed v places
  pub stated : Stating v statements (length statements)
  pub listed : RestrictionsListed v restrictions (length restrictions)

-- Whether the terms a and b differ at t.
abbrev pub differ : List ℕ → ℕ → ℕ → ℕ → Bool
differ v a b t = not (beq (truth v t a) (truth v t b))

abbrev pub type_data_at : List ℕ → ℕ → ℕ → ℕ → TypeData
type_data_at v a b t =
    record { satisfies = satisfies v t; differs = differ v a b t; held = restriction_word v t; filling = filler_word v t }

abbrev pub Differs : List ℕ → ℕ → ℕ → List Bool → Type 0
Differs v a b differs = (t : ℕ) → t < types v → get_or differs t false ≡ differ v a b t

-- The word of the truths at a place of each restriction, signed.
abbrev pub truth_word : List Bool → (Restriction → ℕ) → List Restriction → ℕ
truth_word values place list =
    number (length list) (λ m. signed (get_or list m no_restriction).universal
    (get_or values (place (get_or list m no_restriction)) false))

-- A table as it is lent for the survivors: there are none yet.
abbrev pub Empty : List Bool → Type 0
Empty alive = (t : ℕ) → has alive t ≡ false

-- Tables as they are left: by the data of all types, before any round; by the rounds.
pub record Worded (v held filling : List ℕ) : Type 0 where
  pub held_at : RestrictionWords v held
  pub filling_at : FillerWords v filling

pub record Started (v : List ℕ) (a b : ℕ) (alive differs : List Bool) : Type 0 where
  pub alive_at : SameSet alive (stage v 0)
  pub differs_at : Differs v a b differs

pub record Settled (v : List ℕ) (a b : ℕ) (alive differs : List Bool) : Type 0 where
  pub alive_at : SameSet alive (survivors v)
  pub differs_at : Differs v a b differs
