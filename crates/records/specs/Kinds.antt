-- What the kinds of records are, and what their fields hold.
use Rattle.std.specs.Prelude.{ℕ, Bool, true, false, List, [], ◌∷◌, get_or}
use Rattle.records.specs.declared.fields.Record.{Record}
use Rattle.records.specs.declared.kinds.Class.{Class}
use Rattle.records.specs.declared.kinds.Class.TheVariants.{Silent, Connective, Name, Restriction, Statement}
use Rattle.records.specs.declared.kinds.Sort.{Sort}
use Rattle.records.specs.declared.kinds.Sort.TheVariants.{Spare, Term, Role, Label, Link}
use Rattle.records.specs.declared.kinds.Sorts.{Sorts}

-- What a record says. Operands, roles and fillers are numbers; "Each name record is a name of its own; labels are for
-- people", so a name has nothing with it.
pub data Construct : Type 0 where
  none top bottom name : Construct
  negation : ℕ → Construct
  conjunction disjunction existential universal inclusion : ℕ → ℕ → Construct

-- What the fields A, B and next hold: nothing ("Fields not mentioned are zero"), a term number, a role number, a name's label,
-- or the number of the chain's next statement.
abbrev pub sorts : Sort → Sort → Sort → Sorts
sorts a b next = record { a = a; b = b; next = next }

abbrev pub constant_fields : Sorts
constant_fields = sorts Spare Spare Spare

abbrev pub name_fields : Sorts
name_fields = sorts Label Spare Spare

abbrev pub negation_fields : Sorts
negation_fields = sorts Term Spare Spare

abbrev pub junction_fields : Sorts
junction_fields = sorts Term Term Spare

abbrev pub restriction_fields : Sorts
restriction_fields = sorts Role Term Spare

abbrev pub inclusion_fields : Sorts
inclusion_fields = sorts Term Term Link

-- What the records of a kind are: terms by top, bottom, not, and, or; names; restrictions (a role to a term); statements; or
-- none of these, and then they say nothing of an element.
abbrev pub are_terms : Class → Bool
are_terms Silent = false
are_terms Connective = true
are_terms Name = true
are_terms Restriction = true
are_terms Statement = false

abbrev pub are_atoms : Class → Bool
are_atoms Silent = false
are_atoms Connective = false
are_atoms Name = true
are_atoms Restriction = true
are_atoms Statement = false

abbrev pub are_names : Class → Bool
are_names Silent = false
are_names Connective = false
are_names Name = true
are_names Restriction = false
are_names Statement = false

abbrev pub are_restrictions : Class → Bool
are_restrictions Silent = false
are_restrictions Connective = false
are_restrictions Name = false
are_restrictions Restriction = true
are_restrictions Statement = false

abbrev pub are_statements : Class → Bool
are_statements Silent = false
are_statements Connective = false
are_statements Name = false
are_statements Restriction = false
are_statements Statement = true

-- A kind of records: what they are, what the fields hold, and what a record of this kind says.
pub record Kind : Type 0 where
  pub class : Class
  pub fields : Sorts
  pub says : Record → Construct

abbrev pub kind : Class → Sorts → (Record → Construct) → Kind
kind class fields says = record { class = class; fields = fields; says = says }

-- No record has kind 0, or a kind past the table.
abbrev pub no_kind : Kind
no_kind = kind Silent constant_fields (λ r. none)

-- "Kinds 1 to 8 are terms: 1 top; 2 bottom; 3 name, A its label; 4 not A; 5 A and B; 6 A or B; 7 some role A to B;
-- 8 all role A to B. Kind 9 is the statement "A lies within B"." The kinds from 0 on:
abbrev pub kinds : List Kind
kinds =
    no_kind
    ∷ kind Connective constant_fields (λ r. top)
    ∷ kind Connective constant_fields (λ r. bottom)
    ∷ kind Name name_fields (λ r. name)
    ∷ kind Connective negation_fields (λ r. negation r.a)
    ∷ kind Connective junction_fields (λ r. conjunction r.a r.b)
    ∷ kind Connective junction_fields (λ r. disjunction r.a r.b)
    ∷ kind Restriction restriction_fields (λ r. existential r.a r.b)
    ∷ kind Restriction restriction_fields (λ r. universal r.a r.b)
    ∷ kind Statement inclusion_fields (λ r. inclusion r.a r.b)
    ∷ []

unfoldable pub kind_of : ℕ → Kind
kind_of k = get_or kinds k no_kind

abbrev pub sorts_of : ℕ → Sorts
sorts_of k = (kind_of k).fields

abbrev pub construct_of : Record → Construct
construct_of r = (kind_of r.kind).says r

-- "Kinds 1 to 8 are terms"
abbrev pub is_term : ℕ → Bool
is_term k = are_terms (kind_of k).class

-- "Atoms are the records of kinds 3, 7 and 8"
abbrev pub is_atom : ℕ → Bool
is_atom k = are_atoms (kind_of k).class

-- "3 name"
abbrev pub is_name : ℕ → Bool
is_name k = are_names (kind_of k).class

-- kinds 7 and 8, which have a function
abbrev pub is_restriction : ℕ → Bool
is_restriction k = are_restrictions (kind_of k).class

-- "Kind 9 is the statement"
abbrev pub is_statement : ℕ → Bool
is_statement k = are_statements (kind_of k).class
