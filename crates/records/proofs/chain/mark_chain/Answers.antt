-- `records::chain::mark_chain` meets its contract. The loop's invariant: what is marked, and what is still to be walked, is
-- the chain.
-- The walk ends since the chain of an accepted vocabulary rises.
-- Assumes nothing.
use native.Mathlib.Omega.{arith}
use mathlib.Core.Path.{ap, subst}
use Rattle.std.proofs.Common.{rules}
use Rattle.records.specs.declared.fields.Record.{Record}
use Rattle.records.proofs.Theorems.Accepted.{AcceptedFacts, Later, well_formed_vocabulary}
use Rattle.records.proofs.Theorems.Chains.{linked-here, walk_falls}
use Rattle.records.proofs.Refinement.Marks.{Marking, start, next, done}
use Rattle.records.proofs.chain.mark_chain.Goals as goal

pub read_at-at-requires : goal.read_at-at-requires
read_at-at-requires c =
    let good : AcceptedFacts c.args.v.now =
    well_formed_vocabulary c.args.v.now c.requires.well_formed in
    omega (arith, good.sized.least)

pub loop-at-init : goal.loop-at-init
loop-at-init c =
    let good : AcceptedFacts c.args.v.now =
    well_formed_vocabulary c.args.v.now c.requires.well_formed in
    start _ good _ _ (search rules) c.requires.by_index (ap (λ (r : Record). r.a) c.read_at-at.ensures)

pub bounds-marks-at : goal.bounds-marks-at
bounds-marks-at c =
    let good : AcceptedFacts c.args.v.now =
    well_formed_vocabulary c.args.v.now c.requires.well_formed in
    let here : Later c.args.v.now 0 c.loop-at.at =
    linked-here _ good _ c.loop-at.invariant.linked c.loop-at-test.true in
    omega (arith, good.sized.most, here.within)

pub loop-at-smaller : goal.loop-at-smaller
loop-at-smaller c =
    let good : AcceptedFacts c.args.v.now =
    well_formed_vocabulary c.args.v.now c.requires.well_formed in
    let here : Later c.args.v.now 0 c.loop-at.at =
    linked-here _ good _ c.loop-at.invariant.linked c.loop-at-test.true in
    walk_falls _ good _ _ here
    (ap (λ (r : Record). r.next) c.read_at-at-in-loop-at.ensures)

pub loop-at-preserved : goal.loop-at-preserved
loop-at-preserved c =
    let good : AcceptedFacts c.args.v.now =
    well_formed_vocabulary c.args.v.now c.requires.well_formed in
    let here : Later c.args.v.now 0 c.loop-at.at =
    linked-here _ good _ c.loop-at.invariant.linked c.loop-at-test.true in
    next _ good _ _ _ c.loop-at.invariant here
    (ap (λ (r : Record). r.next) c.read_at-at-in-loop-at.ensures)

pub returns : goal.returns
returns c =
    let good : AcceptedFacts c.args.v.now =
    well_formed_vocabulary c.args.v.now c.requires.well_formed in
    done _ good _
    (subst (Marking _ _) c.loop-at-test.false c.loop-at.invariant)
