-- `types::vocabulary::SmallVocabulary::list_statements` meets its contract. The loop's invariant: the marked records below
-- `i` are listed.
-- Assumes nothing.
use Prim.Native.Nat.{◌<◌}
use native.Mathlib.Omega.{arith}
use mathlib.Core.Path.{◌≡◌, subst}
use Rattle.records.proofs.Theorems.Accepted.{accepted_well_formed, accepted-vocabulary}
use Rattle.records.specs.Format.{count, record_limit}
use Rattle.records.proofs.Laws.Filling.{none-marked}
use Rattle.records.proofs.Laws.Listing.{ListedBelow, list-start, list_more, list_same, listed-few}
use Rattle.types.proofs.Refinement.TypeData.{stating}
use Rattle.types.proofs.vocabulary.SmallVocabulary.list_statements.Goals as goal
use Rattle.types.proofs.vocabulary.SmallVocabulary.list_statements.Goals.{then-marks-i, else-marks-i}

pub mark_chain-requires-clause-well_formed : goal.mark_chain-requires-clause-well_formed
mark_chain-requires-clause-well_formed c =
    accepted_well_formed c.args.self.now.bytes.now _ c.args.self.now.accepted

pub mark_chain-requires-clause-by_index : goal.mark_chain-requires-clause-by_index
mark_chain-requires-clause-by_index c =
    (none-marked record_limit).1

pub loop-i-init : goal.loop-i-init
loop-i-init c =
    list-start _ _ _ (omega arith)

pub bounds-marks-i : goal.bounds-marks-i
bounds-marks-i c =
    omega (arith, (accepted-vocabulary c.args.self.now.bytes.now _ c.args.self.now.accepted).sized.most)

pub bounds-statements-found : goal.bounds-statements-found
bounds-statements-found c =
    let v = c.args.self.now in
    omega (arith, (accepted-vocabulary v.bytes.now _ v.accepted).sized.most, listed-few _ _ _ _ _ c.loop-i.invariant)

pub loop-i-preserved : goal.loop-i-preserved
loop-i-preserved c =
    let l = c.loop-i.invariant in
    let free : c.loop-i.found < record_limit =
    let v = c.args.self.now in
    omega (arith, (accepted-vocabulary v.bytes.now _ v.accepted).sized.most, listed-few _ _ _ _ _ l) in
    elim c.if-marks-i.branch [
      | then-marks-i w ↦ rw (w.statements-is, w.found-is) (list_more _ _ _ _ _ l free w.if-marks-i.true)
      | else-marks-i w ↦ rw (w.statements-is, w.found-is) (list_same _ _ _ _ _ l w.if-marks-i.false)
    ]

pub offset_bounds-statements-found : goal.offset_bounds-statements-found
offset_bounds-statements-found c =
    let v = c.args.self.now in
    omega (arith, (accepted-vocabulary v.bytes.now _ v.accepted).sized.most, listed-few _ _ _ _ _ c.loop-i.invariant)

pub overflow_add-found : goal.overflow_add-found
overflow_add-found c =
    let v = c.args.self.now in
    omega (arith, (accepted-vocabulary v.bytes.now _ v.accepted).sized.most, listed-few _ _ _ _ _ c.loop-i.invariant)

pub returns : goal.returns
returns c =
    let v = c.args.self.now.bytes.now in
    let l = c.loop-i in
    let e : l.i ≡ count v = omega arith in
    stating v (accepted-vocabulary v _ c.args.self.now.accepted) _ c.mark_chain.ensures _ _
    (subst (ListedBelow _ record_limit l.statements l.found) e l.invariant)
