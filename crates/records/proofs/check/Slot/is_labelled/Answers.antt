-- `records::check::Slot::is_labelled` meets its contract. The loop's invariant: `found` is whether a record below `j` is of
-- this kind and has this label.
-- Assumes nothing.
use mathlib.Core.Path.{refl, ◌∙◌, sym}
use Rattle.records.specs.Finite.{any_below}
use Rattle.records.specs.Check.{named}
use Rattle.records.specs.Code.Kinds.{number_of_kind}
use Rattle.records.proofs.Laws.Search.{any_hit, any_miss}
use Rattle.records.proofs.check.Slot.is_labelled.Goals as goal
use Rattle.records.proofs.check.Slot.is_labelled.Goals.{then-is_named, else-is_named}

pub loop-j-init : goal.loop-j-init
unfolding any_below
loop-j-init c = refl

pub loop-j-preserved : goal.loop-j-preserved
loop-j-preserved c =
    let a = c.args in
    let test = named a.self.now.v.now (number_of_kind a.kind) a.label in
    elim c.if-is_named.branch [
      | then-is_named w ↦ w.found-is ∙ any_hit test c.loop-j.j (sym c.is_named.ensures ∙ w.if-is_named.true)
      | else-is_named w ↦ w.found-is
          ∙ any_miss test c.loop-j.j _ c.loop-j.invariant (sym c.is_named.ensures ∙ w.if-is_named.false)
    ]
