-- A case more is taken and its line written after the others.
use Rattle.std.proofs.Common.{rules}
use Rattle.lent.proofs.Cases.{one_more}
use Rattle.lent.proofs.run_all.Goals as goal

pub loop-preserved : goal.loop-preserved
loop-preserved g c = one_more _ _ _ _ _ _ _ _ (search rules) c.loop.invariant c.in_ok-run_case.ensures
