-- `types::eliminate::list_alive` meets its contract. The loop's invariant: the types below `t` that are alive are listed.
-- From `size` on there are none.
-- Assumes nothing.
use native.Mathlib.Omega.{arith}
use native.Mathlib.Numerals.{add-one}
use mathlib.Core.Path.{ap}
use lib.ListN.{length}
use Rattle.records.specs.Finite.{has, list_below}
use Rattle.records.proofs.Laws.Listing.{entries-few}
use Rattle.types.proofs.Invariants.Elimination.{list_enumerates}
use Rattle.types.proofs.eliminate.list_alive.Goals as goal
use Rattle.types.proofs.eliminate.list_alive.Goals.{then-alive-t, else-alive-t}

pub loop-t-init : goal.loop-t-init
unfolding list_below
loop-t-init c = c.requires.empty

pub push-requires : goal.push-requires
push-requires c = omega (arith, ap length c.loop-t.invariant, entries-few (has c.args.alive.now) c.loop-t.t)

pub loop-t-preserved : goal.loop-t-preserved
unfolding list_below
loop-t-preserved c =
    elim c.if-alive-t.branch [
      | then-alive-t w ↦ rw (w.remaining-is, w.push.ensures, c.loop-t.invariant, add-one, w.if-alive-t.true)
      | else-alive-t w ↦ rw (w.remaining-is, c.loop-t.invariant, add-one, w.if-alive-t.false)
    ]

pub returns : goal.returns
returns c =
    rw c.loop-t.invariant (list_enumerates _ _ (λ u h. c.requires.by_index u (omega arith)))
