-- `types::vocabulary::SmallVocabulary::list_restrictions` meets its contract. The loop's invariant: the restrictions below
-- `i` are listed,
-- with what is kept of each. There is room, since each is an atom.
-- Assumes nothing.
use Prim.Native.Nat.{ℕ}
use mathlib.Core.List.{List}
use mathlib.Core.Path.{◌≡◌}
use Rattle.types.specs.Comparison.{atom_limit}
use Rattle.types.specs.Code.Settling.{kept_of, no_restriction}
use Rattle.types.specs.declared.restrict.Restriction.{Restriction}
use Rattle.records.proofs.Laws.Listing.{entries, entry}
use Rattle.types.proofs.Refinement.Restrictions.{restricts}
use Rattle.records.proofs.Laws.Filling.{Filled}
use Rattle.types.proofs.vocabulary.SmallVocabulary.list_restrictions.Given as goal

pub record Listing (v : List ℕ) (list : List Restriction) (n i : ℕ) : Type 0 where
  pub total : n ≡ entries (restricts v) i
  pub filled : Filled no_restriction atom_limit list (λ m. kept_of v (entry (restricts v) i m)) n

abbrev pub invariant-loop-i : goal.invariant-loop-i
invariant-loop-i l =
    Listing l.self.bytes.now l.list l.count l.i
