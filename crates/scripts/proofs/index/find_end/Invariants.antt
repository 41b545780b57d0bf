-- `scripts::index::find_end` meets its contract. The loop's invariant: no term record stands at `last` or after it.
-- Assumes nothing.
use Rattle.scripts.specs.Code.Index.{TermsBefore}
use Rattle.scripts.proofs.index.find_end.Given as goal

abbrev pub invariant-loop-last : goal.invariant-loop-last
invariant-loop-last l =
    TermsBefore l.s l.last
