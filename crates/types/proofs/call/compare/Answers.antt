-- `types::call::compare` meets its contract. What the checks tell of the vocabulary and the query is what deciding needs.
-- Assumes nothing.
use mathlib.Core.Path.{sym}
use Rattle.types.proofs.Refinement.Outcomes.{query_comparable}
use Rattle.types.proofs.call.compare.Goals as goal

pub invariant_of-v : goal.invariant_of-v
invariant_of-v c =
    let q = query_comparable c.args.v.now c.args.a c.args.b _ _ (sym c.in_ok-check_vocabulary.ensures)
    (sym c.in_ok-check_query.ensures) _ c.count_atoms-k.ensures in
    record { accepted = q.settles.accepts; few = q.settles.few; counted = q.settles.counts }
