-- Broader names as the code finds them. The meet of a set of types, their bitwise and, has bit q where atom q is true at all of
-- them: of the survivors at which a name is true it tells which names are broader. The code keeps the meets of the survivors
-- that share the low half of their bits, and of those that share the high half; each atom's meet is a meet of these.
use Rattle.std.specs.Prelude.{ℕ, ◌-◌, ◌/◌, ◌%◌, ◌^◌, ◌<◌, ◌≡◌, Bool, cond, not, ◌&&◌, ◌||◌, List, eqb, ltb, length, get_or}
use Rattle.records.specs.Finite.{all_below, has, bit}
use Rattle.records.specs.Atoms.{rank}
use Rattle.types.specs.Comparison.{atom_limit}
use Rattle.taxonomy.specs.Taxonomy.{name_count, name_at, broader}

-- Half of the bits of a type, and how many values they have.
abbrev pub half_bits : ℕ
half_bits = atom_limit / 2

abbrev pub halves : ℕ
halves = 2 ^ half_bits

-- All entries of a list number atoms.
abbrev pub AtomNumbers : List ℕ → Type 0
AtomNumbers atoms = (m : ℕ) → get_or atoms m 0 < atom_limit

-- A word has bit q where atom q is true at every type below n that passes a test: it is their meet.
abbrev pub always : (ℕ → Bool) → ℕ → ℕ → Bool
always test n q = all_below (λ t. not (test t) || bit t q) n

abbrev pub MeetOf : (ℕ → Bool) → ℕ → ℕ → Type 0
MeetOf test n word = (q : ℕ) → q < atom_limit → bit word q ≡ always test n q

-- A table that has the meet of the members of a set below n for each value of a part of their bits.
pub record Meets (part : ℕ → ℕ) (S : List Bool) (n : ℕ) (table : List ℕ) : Type 0 where
  pub size : length table ≡ halves
  pub meet_at : (x : ℕ) → x < halves → MeetOf (λ t. has S t && eqb (part t) x) n (get_or table x 0)

abbrev pub low : ℕ → ℕ
low t = t % halves

abbrev pub high : ℕ → ℕ
high t = t / halves

-- Bit q of the meet of those words of a table, below n, whose place has bit p.
abbrev pub jointly : List ℕ → ℕ → ℕ → ℕ → Bool
jointly table p n q = all_below (λ x. not (bit x p) || bit (get_or table x 0) q) n

-- The same by the half that has bit p.
abbrev pub jointly_by : List ℕ → List ℕ → ℕ → ℕ → Bool
jointly_by lows highs p q = cond (ltb p half_bits) (jointly lows p halves q) (jointly highs (p - half_bits) halves q)

-- Words that hold, for each of n names, that meet.
abbrev pub MeetsListed : List ℕ → List ℕ → List ℕ → ℕ → List ℕ → Type 0
MeetsListed lows highs atoms n meets =
    (i q : ℕ) → i < n → q < atom_limit → bit (get_or meets i 0) q ≡ jointly_by lows highs (get_or atoms i 0) q

-- A name's word says which names are broader.
abbrev pub Above : List ℕ → List ℕ → Type 0
Above v meets =
    (i j : ℕ) → i < name_count v → j < name_count v
    → bit (get_or meets i 0) (rank v (name_at v j)) ≡ broader v (name_at v i) (name_at v j)
