-- The truth rules of the code are the paper's.
--   from-digit                              a truth as a number is its digit
--   agree                                   rules that agree at all four places
--   rule_evaluates                          what a record says, by its rule
--   operands_earlier                        its operands come no later than the record
-- Assumes nothing.
use Prim.Native.Nat.{ℕ, ◌≤◌, ◌<◌}
use native.Mathlib.Omega.{arith}
use native.Mathlib.Decide.{dec_lt}
use mathlib.Core.Path.{◌≡◌, refl, ap}
use mathlib.Core.Bool.{Bool, true, false, not, ◌&&◌, ◌||◌}
use lib.ListN.{get_or-eq_default}
use Rattle.records.specs.Kinds.{kind_of, construct_of}
use Rattle.records.specs.Code.Kinds.{numbered_kinds}
use Rattle.records.specs.declared.fields.Record.{Record}
use Rattle.std.proofs.Common.{None}
use Rattle.records.proofs.Laws.Ranges.{between}
use Rattle.records.proofs.Theorems.Constructs.{Earlier, says_past}
use Rattle.records.specs.Finite.{bit, digit}
use Rattle.std.specs.Int.{from_bool}
use Rattle.types.specs.Meaning.{evaluate}
use Rattle.types.specs.Code.Rules.{shape, shape_read, shape_of, rule_of, first_operand_of, second_operand_of, select}

shape_past : (k : ℕ) → 10 ≤ k → shape_of k ≡ shape 0 false false
unfolding shape_of
shape_past k h = ap shape_read (get_or-eq_default numbered_kinds None h)

-- A truth as a number.
pub from-digit : (b : Bool) → from_bool b ≡ digit b
from-digit true = refl
from-digit false = refl

-- Two rules that agree at all four places.
abbrev Agree : (Bool → Bool → Bool) → (Bool → Bool → Bool) → Type 0
Agree f g =
    (f false false ≡ g false false)
    × (f false true ≡ g false true)
    × (f true false ≡ g true false)
    × (f true true ≡ g true true)

agree : (f g : Bool → Bool → Bool) → Agree f g → (x y : Bool) → f x y ≡ g x y
agree f g h false false = h.0
agree f g h false true = h.1
agree f g h true false = h.2
agree f g h true true = h.3

-- where an atom's own place has its truth already
pub rule_evaluates : (r : Record) (n : ℕ) (f : ℕ → Bool)
    → select (rule_of r.kind) (f (first_operand_of r.kind r.a n)) (f (second_operand_of r.kind r.b)) ≡ evaluate
    (construct_of r)
    (f n) f
unfolding kind_of shape_of select bit
rule_evaluates r n f = at (dec_lt r.kind 10)
  where
    RuleHolds : ℕ → Type 0
    RuleHolds k = select (rule_of k) (f (first_operand_of k r.a n)) (f (second_operand_of k r.b)) ≡ evaluate ((kind_of k).says r)
        (f n) f

    never : (x y : Bool) → select 0 x y ≡ false
    never = agree (select 0) (λ x y. false) (refl, refl, refl, refl)

    at : Dec (r.kind < 10) → RuleHolds r.kind
    at (yes h) =
        let none = never (f n) (f 0) in
        let top = agree (select 15) (λ x y. true) (refl, refl, refl, refl) (f n) (f 0) in
        let name = agree (select 10) (λ x y. x) (refl, refl, refl, refl) (f n) (f 0) in
        let neg = agree (select 5) (λ x y. not x) (refl, refl, refl, refl) (f r.a) (f 0) in
        let and = agree (select 8) (λ x y. x && y) (refl, refl, refl, refl) (f r.a) (f r.b) in
        let or = agree (select 14) (λ x y. x || y) (refl, refl, refl, refl) (f r.a) (f r.b) in
        let some = agree (select 10) (λ x y. x) (refl, refl, refl, refl) (f n) (f r.b) in
        let sub = agree (select 13) (λ x y. not x || y) (refl, refl, refl, refl) (f r.a) (f r.b) in
        between RuleHolds 10 0 (none, (top, (none, (name, (neg, (and, (or, (some, (some, (sub, tt))))))))))
        r.kind (omega arith) h
    at (no m) = rw (shape_past r.kind (omega arith), says_past r.kind (omega arith) r) (never (f n) (f 0))

pub operands_earlier : (r : Record) (i n : ℕ) → n ≤ i → Earlier i (construct_of r)
    → (first_operand_of r.kind r.a n ≤ i) × (second_operand_of r.kind r.b ≤ i)
unfolding kind_of shape_of
operands_earlier r i n l = at (dec_lt r.kind 10)
  where
    Bound : ℕ → Type 0
    Bound k = Earlier i ((kind_of k).says r) → (first_operand_of k r.a n ≤ i) × (second_operand_of k r.b ≤ i)

    none : Unit {0} → (n ≤ i) × (0 ≤ i)
    none e = (l, omega arith)

    first : (r.a < i) × Unit {0} → (r.a ≤ i) × (0 ≤ i)
    first e = (omega (arith, e.0), omega arith)

    both : (r.a < i) × ((r.b < i) × Unit {0}) → (r.a ≤ i) × (r.b ≤ i)
    both e = (omega (arith, e.0), omega (arith, e.1.0))

    filler : (r.b < i) × Unit {0} → (n ≤ i) × (r.b ≤ i)
    filler e = (l, omega (arith, e.0))

    at : Dec (r.kind < 10) → Bound r.kind
    at (yes h) =
        between Bound 10 0 (none, (none, (none, (none, (first, (both, (both, (filler, (filler, (both, tt))))))))))
        r.kind (omega arith) h
    at (no m) = λ e. rw (shape_past r.kind (omega arith)) (l, omega arith)
