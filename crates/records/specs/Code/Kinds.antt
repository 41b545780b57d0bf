-- The kinds of the code's enum, by their numbers. No promise of a call speaks of it.
use Rattle.std.specs.Prelude.{ℕ, Option, Some, None, List, [], ◌∷◌, get_or}
use Rattle.records.specs.declared.kinds.Kind.{Kind}
use Rattle.records.specs.declared.kinds.Kind.TheVariants as kind

abbrev pub number_of_kind : Kind → ℕ
number_of_kind kind.Top = 1
number_of_kind kind.Bottom = 2
number_of_kind kind.Name = 3
number_of_kind kind.Negation = 4
number_of_kind kind.Conjunction = 5
number_of_kind kind.Disjunction = 6
number_of_kind kind.Existential = 7
number_of_kind kind.Universal = 8
number_of_kind kind.Inclusion = 9

-- those from 0 on; no record has kind 0
abbrev pub numbered_kinds : List (Option Kind)
numbered_kinds =
    None
    ∷ Some kind.Top
    ∷ Some kind.Bottom
    ∷ Some kind.Name
    ∷ Some kind.Negation
    ∷ Some kind.Conjunction
    ∷ Some kind.Disjunction
    ∷ Some kind.Existential
    ∷ Some kind.Universal
    ∷ Some kind.Inclusion
    ∷ []

-- the kind of this number, if one has it
abbrev pub kind_numbered : ℕ → Option Kind
kind_numbered k = get_or numbered_kinds k None
