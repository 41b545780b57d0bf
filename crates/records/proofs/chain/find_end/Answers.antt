-- `records::chain::find_end` meets its contract. The loop's invariant: the end of what is still to be walked, or where nothing
-- is left the statement last passed, is the chain's.
-- Assumes nothing.
use native.Mathlib.Omega.{arith}
use mathlib.Core.Path.{sym, ap, subst, ◌∙◌}
use Prim.Native.Nat.{ℕ}
use Rattle.records.specs.Finite.{last_or}
use Rattle.records.specs.Chain.{chain_from}
use Rattle.records.specs.declared.fields.Record.{Record}
use Rattle.records.proofs.Theorems.Accepted.{AcceptedFacts, Later, Linked, well_formed_vocabulary}
use Rattle.records.proofs.Theorems.Chains.{linked-here, linked-next, walk_falls, end_nil, end_step}
use Rattle.records.proofs.chain.find_end.Goals as goal

pub read_at-at-requires : goal.read_at-at-requires
read_at-at-requires c =
    let good : AcceptedFacts c.args.v.now =
    well_formed_vocabulary c.args.v.now c.requires in
    omega (arith, good.sized.least)

pub loop-at-init : goal.loop-at-init
loop-at-init c =
    let good : AcceptedFacts c.args.v.now =
    well_formed_vocabulary c.args.v.now c.requires in
    let v = c.args.v.now in
    let first = ap (λ (r : Record). r.a) c.read_at-at.ensures in
    (subst (Linked v 0) (sym first) good.first, ap (λ (i : ℕ). last_or 0 (chain_from v i)) first)

pub loop-at-smaller : goal.loop-at-smaller
loop-at-smaller c =
    let good : AcceptedFacts c.args.v.now =
    well_formed_vocabulary c.args.v.now c.requires in
    let here : Later c.args.v.now 0 c.loop-at.at =
    linked-here _ good _ c.loop-at.invariant.0 c.loop-at-test.true in
    walk_falls _ good _ _ here
    (ap (λ (r : Record). r.next) c.read_at-at-in-loop-at.ensures)

pub loop-at-preserved : goal.loop-at-preserved
loop-at-preserved c =
    let good : AcceptedFacts c.args.v.now =
    well_formed_vocabulary c.args.v.now c.requires in
    let here : Later c.args.v.now 0 c.loop-at.at =
    linked-here _ good _ c.loop-at.invariant.0 c.loop-at-test.true in
    let l = c.loop-at in
    let v = c.args.v.now in
    let stands = here in
    let next = ap (λ (r : Record). r.next) c.read_at-at-in-loop-at.ensures in (
      linked-next v good l.at _ stands next,
      ap (λ (i : ℕ). last_or l.at (chain_from v i)) next ∙ end_step v good l.end l.at stands ∙ l.invariant.1,
    )

pub returns : goal.returns
returns c =
    let v = c.args.v.now in
    let l = c.loop-at in
    sym (end_nil v l.end) ∙ ap (λ (i : ℕ). last_or l.end (chain_from v i)) (sym c.loop-at-test.false) ∙ l.invariant.1
