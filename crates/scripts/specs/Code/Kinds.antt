-- The kinds of the code's enum, by their numbers. No promise of a call speaks of it.
use Rattle.std.specs.Prelude.{ℕ, Option, Some, None, List, [], ◌∷◌, get_or}
use Rattle.scripts.specs.declared.entry.EntryKind.{EntryKind}
use Rattle.scripts.specs.declared.entry.EntryKind.TheVariants as kind

-- those from 0 on; no record has kind 0
abbrev pub numbered_kinds : List (Option EntryKind)
numbered_kinds =
    None
    ∷ Some kind.Constant
    ∷ Some kind.Term
    ∷ Some kind.Start
    ∷ Some kind.Extension
    ∷ Some kind.Reduction
    ∷ []

-- the kind of this number, if one has it
abbrev pub kind_numbered : ℕ → Option EntryKind
kind_numbered k = get_or numbered_kinds k None

abbrev pub number_of_kind : EntryKind → ℕ
number_of_kind kind.Constant = 1
number_of_kind kind.Term = 2
number_of_kind kind.Start = 3
number_of_kind kind.Extension = 4
number_of_kind kind.Reduction = 5

-- 0, the number of no kind, where there is none
abbrev pub number_or_none : Option EntryKind → ℕ
number_or_none None = 0
number_or_none (Some k) = number_of_kind k
