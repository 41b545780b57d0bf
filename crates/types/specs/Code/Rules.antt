-- The truth rules as the code keeps them, and the tables it decodes a vocabulary into. No promise of a call
-- speaks of them: proofs/Refinement/TruthRules.antt shows that the rules are the paper's.
use Rattle.std.specs.Prelude.{ℕ, ◌+◌, ◌*◌, ◌<◌, ◌≡◌, Bool, true, false, cond, List, length, get_or, Option, Some, None}
use Rattle.records.specs.Format.{record_at, count}
use Rattle.records.specs.Kinds.{is_atom}
use Rattle.records.specs.Code.Kinds.{kind_numbered}
use Rattle.records.specs.declared.kinds.Kind.{Kind}
use Rattle.records.specs.declared.kinds.Kind.TheVariants as kind
use Rattle.records.specs.Finite.{digit, all_below, bit}
use Rattle.records.specs.declared.fields.Record.{Record}
use Rattle.records.specs.Atoms.{rank, atoms}
use Rattle.types.specs.Types.{truth}
use Rattle.types.specs.declared.decode.Rule.{Rule}

-- A kind's rule as a number of four bits, and whether A and B are operands.
pub record Shape : Type 0 where
  pub rule : ℕ
  pub first : Bool
  pub second : Bool

abbrev pub shape : ℕ → Bool → Bool → Shape
shape rule first second = record { rule = rule; first = first; second = second }

abbrev pub shape_of_kind : Kind → Shape
shape_of_kind kind.Top = shape 15 false false
shape_of_kind kind.Bottom = shape 0 false false
shape_of_kind kind.Name = shape 10 false false
shape_of_kind kind.Negation = shape 5 true false
shape_of_kind kind.Conjunction = shape 8 true true
shape_of_kind kind.Disjunction = shape 14 true true
shape_of_kind kind.Existential = shape 10 false true
shape_of_kind kind.Universal = shape 10 false true
shape_of_kind kind.Inclusion = shape 13 true true

-- what is of no kind is never true, as the header
abbrev pub shape_read : Option Kind → Shape
shape_read None = shape 0 false false
shape_read (Some k) = shape_of_kind k

unfoldable pub shape_of : ℕ → Shape
shape_of kind = shape_read (kind_numbered kind)

abbrev pub rule_of : ℕ → ℕ
rule_of kind = (shape_of kind).rule

-- A where it is an operand; else the record's own number, where an atom finds its truth.
abbrev pub first_operand_of : ℕ → ℕ → ℕ → ℕ
first_operand_of kind a own = cond (shape_of kind).first a own

abbrev pub second_operand_of : ℕ → ℕ → ℕ
second_operand_of kind b = cond (shape_of kind).second b 0

-- The truth that a rule gives where its operands are x and y.
unfoldable pub select : ℕ → Bool → Bool → Bool
select rule x y = bit rule (digit x + 2 * digit y)

-- What is decoded of a record; nothing; a table of that for each record.
abbrev pub rule_for : Record → ℕ → Rule
rule_for r own =
    record { table = rule_of r.kind; first = first_operand_of r.kind r.a own; second = second_operand_of r.kind r.b }

abbrev pub no_rule : Rule
no_rule = record { table = 0; first = 0; second = 0 }

abbrev pub Decoded : List ℕ → List Rule → Type 0
Decoded v code = (i : ℕ) → i < count v → get_or code i no_rule ≡ rule_for (record_at v i) i

-- A list of the atoms' places: that of atom j is entry j.
pub record AtomsListed (v places : List ℕ) : Type 0 where
  pub within : (j : ℕ) → j < atoms v → get_or places j 0 < count v
  pub ranked : (j : ℕ) → j < atoms v → rank v (get_or places j 0) ≡ j
  pub finds : (i : ℕ) → i < count v → is_atom (record_at v i).kind ≡ true → get_or places (rank v i) 0 ≡ i

-- A table that holds the truths of the atoms at type t; one that holds those of all records.
abbrev pub AtomsSet : List ℕ → ℕ → List Bool → Type 0
AtomsSet v t values =
    (i : ℕ) → i < count v → is_atom (record_at v i).kind ≡ true → get_or values i false ≡ bit t (rank v i)

abbrev pub Truths : List ℕ → ℕ → List Bool → Type 0
Truths v t values = (i : ℕ) → i < count v → get_or values i false ≡ truth v t i

-- Each of the listed records is true.
unfoldable pub all_true : List ℕ → List Bool → Bool
all_true places values = all_below (λ j. get_or values (get_or places j 0) false) (length places)
