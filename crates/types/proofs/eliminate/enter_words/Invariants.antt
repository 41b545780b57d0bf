-- `types::eliminate::enter_words` meets its contract. The loop's invariant: `joins` holds the words of the fillers at the
-- listed types that the loop is past.
-- Assumes nothing.
use Rattle.types.specs.Code.Elimination.{Enters}
use Rattle.types.proofs.eliminate.enter_words.Given as goal

abbrev pub invariant-loop-t : goal.invariant-loop-t
invariant-loop-t l =
    Enters l.filling l.remaining l.t-index l.size l.joins
