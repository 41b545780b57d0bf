-- `types::eliminate::remove_unmet` meets its contract. The loop's invariant: the list has the types that are left; those before
-- `j` are met, and only types that are not met were removed.
-- Assumes nothing.
use native.Mathlib.Omega.{arith}
use mathlib.Core.Path.{sym, ◌∙◌}
use Rattle.types.proofs.Invariants.Elimination.{remove_out}
use Rattle.types.proofs.eliminate.remove_unmet.Goals as goal

pub loop-j-preserved : goal.loop-j-preserved
loop-j-preserved c =
    rw (c.swap_remove.ensures, c.as_slice.ensures)
    (remove_out _ _ _ _ _ c.loop-j.invariant (omega arith)
    (rw c.as_slice.ensures at (sym c.is_met.ensures ∙ c.if-is_met.false)))
