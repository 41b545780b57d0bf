-- `types::eliminate::list_alive` meets its contract. The loop's invariant: the types below `t` that are alive are listed.
-- From `size` on there are none.
-- Assumes nothing.
use mathlib.Core.Path.{◌≡◌}
use Rattle.records.specs.Finite.{has, list_below}
use Rattle.types.proofs.eliminate.list_alive.Given as goal

abbrev pub invariant-loop-t : goal.invariant-loop-t
invariant-loop-t l =
    l.remaining ≡ list_below (has l.alive) l.t
