-- `scripts::index::Index::number_all` meets its contract. The constant is numbered first; the loop's invariant: the records
-- before `i` are in the index.
-- Assumes nothing.
use Rattle.scripts.specs.Code.Index.{IndexedBelow}
use Rattle.scripts.proofs.index.Index.number_all.Given as goal

abbrev pub invariant-loop-i : goal.invariant-loop-i
invariant-loop-i l =
    IndexedBelow l.s l.self.links.now l.self.terms.now l.i
