-- `types::vocabulary::SmallVocabulary::list_statements` meets its contract. The loop's invariant: the marked records below
-- `i` are listed.
-- Assumes nothing.
use Rattle.records.specs.Finite.{has}
use Rattle.records.specs.Format.{record_limit}
use Rattle.records.proofs.Laws.Listing.{ListedBelow}
use Rattle.types.proofs.vocabulary.SmallVocabulary.list_statements.Given as goal

abbrev pub invariant-loop-i : goal.invariant-loop-i
invariant-loop-i l =
    ListedBelow (has l.marks) record_limit l.statements l.found l.i
