-- `types::vocabulary::SmallVocabulary::list_atoms` meets its contract. The loop's invariant: the atoms below `i` are listed
-- by their numbers.
-- Assumes nothing.
use mathlib.Core.Bool.{Bool}
use mathlib.Core.List.{List}
use Prim.Native.Nat.{ℕ}
use Rattle.records.specs.Format.{record_at}
use Rattle.records.specs.Kinds.{is_atom}
use Rattle.types.specs.Comparison.{atom_limit}
use Rattle.records.proofs.Laws.Listing.{ListedBelow}
use Rattle.types.proofs.vocabulary.SmallVocabulary.list_atoms.Given as goal

abbrev pub atom : List ℕ → ℕ → Bool
atom v i = is_atom (record_at v i).kind

abbrev pub invariant-loop-i : goal.invariant-loop-i
invariant-loop-i l =
    ListedBelow (atom l.self.bytes.now) atom_limit l.places l.found l.i
