-- `types::vocabulary::Query::settle` meets its contract. What was listed is what a plan holds.
-- Assumes nothing.
use native.Mathlib.Omega.{arith}
use mathlib.Core.Path.{sym}
use lib.Seq.{length-take-le}
use Rattle.records.proofs.Theorems.Accepted.{accepted-vocabulary}
use Rattle.types.proofs.Refinement.Restrictions.{width-bound}
use Rattle.types.proofs.Refinement.TypeData.{prepared}
use Rattle.types.proofs.vocabulary.Query.settle.Goals as goal

pub slice_bounds-code-end : goal.slice_bounds-code-end
slice_bounds-code-end c =
    omega (arith, (accepted-vocabulary c.args.self.now.v.bytes.now _ c.args.self.now.v.accepted).sized.most)

pub slice_bounds-statements-end : goal.slice_bounds-statements-end
slice_bounds-statements-end c =
    omega (
      arith,
      c.list_statements-found.ensures.few,
      (accepted-vocabulary c.args.self.now.v.bytes.now _ c.args.self.now.v.accepted).sized.most,
    )

pub slice_bounds-restrictions-end : goal.slice_bounds-restrictions-end
slice_bounds-restrictions-end c =
    omega (arith, c.list_restrictions-bits.ensures.all, width-bound c.args.self.now.v.bytes.now, c.args.self.now.v.few)

pub invariant_of-plan : goal.invariant_of-plan
invariant_of-plan c =
    let q = c.args.self.now in
    let v = q.v in
    let most = (accepted-vocabulary v.bytes.now _ v.accepted).sized.most in
    let s = c.list_statements-found.ensures in
    let r = c.list_restrictions-bits.ensures in record {
      prepared = prepared v.bytes.now q.a q.b v.k ((record {
        settles = record { accepts = v.accepted; few = v.few; counts = v.counted };
        first = q.first;
        second = q.second;
      })) _ (omega (arith, most)) c.decode.ensures
          _ (omega (arith, v.few, v.counted)) c.list_atoms-places.ensures
          _ _ (omega (arith, most, s.few)) s
          _ _ (omega (arith, r.all, width-bound v.bytes.now, v.few)) r;
    }

pub slice_bounds-plan-end : goal.slice_bounds-plan-end
slice_bounds-plan-end c =
    let v = c.args.self.now.v in
    sym (length-take-le _ _ (omega (arith, (accepted-vocabulary v.bytes.now _ v.accepted).sized.most)))

pub slice_bounds-plan-end-3 : goal.slice_bounds-plan-end-3
slice_bounds-plan-end-3 c =
    sym (length-take-le _ _ (omega (
      arith,
      c.list_statements-found.ensures.few,
      (accepted-vocabulary c.args.self.now.v.bytes.now _ c.args.self.now.v.accepted).sized.most,
    )))

pub slice_bounds-plan-end-4 : goal.slice_bounds-plan-end-4
slice_bounds-plan-end-4 c =
    sym (length-take-le _ _ (omega (
      arith,
      c.list_restrictions-bits.ensures.all,
      width-bound c.args.self.now.v.bytes.now,
      c.args.self.now.v.few,
    )))
