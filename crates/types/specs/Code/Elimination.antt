-- Type elimination as the code does it: the tables that a round works on, and what a removal and a round leave. Refinement.Rounds
-- shows that the rounds are the paper's.
use Rattle.std.specs.Prelude.{ℕ, ◌-◌, ◌^◌, ◌≤◌, ◌<◌, ◌≡◌, Bool, true, false, cond, ◌&&◌, List, length, get_or, ltb, leb, eqb}
use Rattle.std.specs.Int.Bits.{bit_or}
use Rattle.records.specs.Format.{role_count}
use Rattle.records.specs.Finite.{any_below, has, members, bit}
use Rattle.records.specs.Check.{IsAccepted}
use Rattle.records.specs.Atoms.{atoms}
use Rattle.types.specs.Types.{types}
use Rattle.types.specs.Survivors.{stage}
use Rattle.types.specs.Comparison.{atom_limit}
use Rattle.types.specs.Code.Words.{width, other_role_word, zeta, joins, RestrictionWords, SameSet}

-- A table of the words of the restrictions of other roles, one for each role.
abbrev pub Masks : List ℕ → List ℕ → Type 0
Masks v masks = (r : ℕ) → r < role_count v → get_or masks r 0 ≡ other_role_word v r

-- "Lower the count as each type is removed": a list of each member of a set once and nothing else, whose length is the count.
pub record Enumerates (list : List ℕ) (S : List Bool) : Type 0 where
  pub sound : (j : ℕ) → j < length list → has S (get_or list j 0) ≡ true
  pub finds : (t : ℕ) → has S t ≡ true → (j : ℕ) × (j < length list) × (get_or list j 0 ≡ t)
  pub apart : (i j : ℕ) → i < length list → j < length list → get_or list i 0 ≡ get_or list j 0 → i ≡ j
  pub counted : length list ≡ members S

-- The state of an elimination: an accepted vocabulary of few enough atoms, the tables of its roles and types, and the set of
-- types that are left, with a list of them.
pub record Eliminating (v : List ℕ) (bits : ℕ) (masks held remaining : List ℕ) (alive : List Bool) : Type 0 where
  pub accepts : IsAccepted v
  pub few : atoms v ≤ atom_limit
  pub wide : bits ≡ width v
  pub masked : Masks v masks
  pub held_words : RestrictionWords v held
  pub listed : Enumerates remaining alive
  pub ends : (t : ℕ) → types v ≤ t → has alive t ≡ false

-- x itself where one of the first n types listed has it as its word of fillers, else 0; a table of that below a bound.
abbrev pub present_among : List ℕ → List ℕ → ℕ → ℕ → ℕ
present_among filling list n x = cond (any_below (λ i. eqb (get_or filling (get_or list i 0) 0) x) n) x 0

abbrev pub Enters : List ℕ → List ℕ → ℕ → ℕ → List ℕ → Type 0
Enters filling list n words table = (x : ℕ) → x < words → get_or table x 0 ≡ present_among filling list n x

-- Whether y lies from a on, before e.
abbrev pub between : ℕ → ℕ → ℕ → Bool
between a e y = leb a y && ltb y e

-- An entry, joined with the one `half` places before it where a test holds; a table whose entries are.
abbrev pub joined_if : Bool → List ℕ → ℕ → ℕ → ℕ
joined_if b old half y = cond b (bit_or (get_or old y 0) (get_or old (y - half) 0)) (get_or old y 0)

abbrev pub Joined : (ℕ → Bool) → ℕ → List ℕ → List ℕ → Type 0
Joined test half old new = (y : ℕ) → get_or new y 0 ≡ joined_if (test y) old half y

-- One bit's pass: below a bound, each word with bit n is joined with the word without it.
abbrev pub ZetaStep : ℕ → ℕ → List ℕ → List ℕ → Type 0
ZetaStep n words old new = (x : ℕ) → x < words → get_or new x 0 ≡ joined_if (bit x n) old (2 ^ n) x

-- The passes over the bits below n.
abbrev pub ZetaTo : ℕ → ℕ → List ℕ → List ℕ → Type 0
ZetaTo n words old new = (x : ℕ) → x < words → get_or new x 0 ≡ zeta (λ y. get_or old y 0) n x

-- A table of the joins of all words.
abbrev pub Joins : List ℕ → List Bool → List ℕ → Type 0
Joins v S table = (x : ℕ) → x < 2 ^ width v → get_or table x 0 ≡ joins v S x

-- What a word of restrictions needs for one role is met by a table of joins; what type t needs, by a table of such words.
abbrev pub met_by : List ℕ → ℕ → ℕ → Bool
met_by table mask word = eqb (bit_or (get_or table (bit_or word mask) 0) mask) (bit_or word mask)

abbrev pub met_at : List ℕ → ℕ → List ℕ → ℕ → Bool
met_at table mask held t = met_by table mask (get_or held t 0)

-- What a test keeps of a set.
abbrev pub Keeps : (ℕ → Bool) → List Bool → List Bool → Type 0
Keeps test S R = (t : ℕ) → has R t ≡ (has S t && test t)

-- The types left after n rounds, and their count: "at each round's end it is the number of types left".
pub record AtStage (v : List ℕ) (n : ℕ) (S : List Bool) (left : ℕ) : Type 0 where
  pub same : SameSet S (stage v n)
  pub counted : left ≡ members (stage v n)
