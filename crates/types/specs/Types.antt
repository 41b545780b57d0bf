-- Types: truth at a type, the pairs allowed for a role, and which types a set serves.
use Rattle.std.specs.Prelude.{ℕ, ◌^◌, Bool, true, false, not, ◌&&◌, ◌||◌, List, eqb}
use Rattle.records.specs.Format.{record_at, count}
use Rattle.records.specs.Kinds.{construct_of}
use Rattle.records.specs.Finite.{any_below, all_below, has, bit, in_record_order}
use Rattle.records.specs.Atoms.{rank, atoms}
use Rattle.types.specs.Meaning.{Restriction, some, all, plain, restriction_at, evaluate}

-- "A type is a number from 0 to 2^k − 1": how many there are.
abbrev pub types : List ℕ → ℕ
types v = 2 ^ atoms v

-- "whose bit j is the truth of atom j. Other terms have their truth at a type by top, bottom, not, and, or."
abbrev pub truth_rule : List ℕ → ℕ → (ℕ → Bool) → ℕ → Bool
truth_rule v t operand i = evaluate (construct_of (record_at v i)) (bit t (rank v i)) operand

unfoldable pub truth : List ℕ → ℕ → ℕ → Bool
truth v t i = in_record_order false (truth_rule v t) i

-- Record i does not forbid the pair (t, s) for role r: "every kind-7 record of r false at t has B false at s, and every kind-8
-- record of r true at t has B true at s".
abbrev pub allows : List ℕ → ℕ → ℕ → ℕ → ℕ → Restriction → Bool
allows v r t s i plain = true
allows v r t s i (some q b) = not (eqb q r) || (truth v t i || not (truth v s b))
allows v r t s i (all q b) = not (eqb q r) || (not (truth v t i) || truth v s b)

-- "A pair (t, s) is allowed for role r when" all records allow it.
unfoldable pub allowed : List ℕ → ℕ → ℕ → ℕ → Bool
allowed v r t s = all_below (λ i. allows v r t s i (restriction_at v i)) (count v)

-- The set has "an s allowed for the record's role" at which the filler's truth is as wanted.
abbrev pub witnessed : List ℕ → List Bool → ℕ → ℕ → (ℕ → Bool) → Bool
witnessed v S t r wanted = any_below (λ s. has S s && (allowed v r t s && wanted s)) (types v)

-- What record i needs at t is met: "each kind-7 record true at it has, in the set, an s allowed for the record's role with B
-- true, and each kind-8 record false at it has, in the set, an s allowed for its role with B false".
abbrev pub met : List ℕ → List Bool → ℕ → ℕ → Restriction → Bool
met v S t i plain = true
met v S t i (some r b) = not (truth v t i) || witnessed v S t r (λ s. truth v s b)
met v S t i (all r b) = truth v t i || witnessed v S t r (λ s. not (truth v s b))

-- "A type is served by a set when" every need is met.
unfoldable pub served : List ℕ → List Bool → ℕ → Bool
served v S t = all_below (λ i. met v S t i (restriction_at v i)) (count v)
