-- `types::type_data::Plan::truths` meets its contract. The loop's invariant: the truths are right below `i`, and those of
-- the atoms from there on.
-- Assumes nothing.
use Prim.Native.Nat.{ℕ, ◌+◌, ◌<◌}
use native.Mathlib.Omega.{arith}
use mathlib.Core.Bool.{Bool, false}
use mathlib.Core.List.{List}
use mathlib.Core.Path.{◌≡◌, sym, ap, ◌∙◌}
use lib.ListN.{get_or, set}
use lib.Seq.{get_or-set_other}
use Rattle.records.proofs.Theorems.Accepted.{AcceptedFacts}
use Rattle.records.proofs.Theorems.Constructs.{construct_earlier, construct_atom}
use Rattle.records.specs.Atoms.{rank}
use Rattle.records.specs.Format.{count, record_at, record_limit}
use Rattle.records.specs.Kinds.{construct_of}
use Rattle.records.specs.Finite.{bit}
use Rattle.types.specs.Code.Rules.{Decoded, select, no_rule}
use Rattle.types.specs.declared.decode.Rule.{Rule}
use Rattle.types.specs.Types.{truth}
use Rattle.types.proofs.Refinement.TypeData.{prepared_good, few-records}
use Rattle.types.proofs.Refinement.TruthRules.{rule_evaluates, operands_earlier}
use Rattle.types.proofs.Theorems.Truth.{truth_eq, evaluate_cong}
use Rattle.records.proofs.Laws.Filling.{fill_turn}
use Rattle.types.proofs.type_data.Plan.truths.Invariants.{Filling}
use Rattle.types.proofs.type_data.Plan.truths.Goals as goal

module _ (v : List ℕ) (code : List Rule) (good : AcceptedFacts v) (d : Decoded v code) (i : ℕ) (h : i < count v) where
  -- the record's rule
  abbrev rule : Rule
  rule = get_or code i no_rule

  operands : (rule.first < record_limit) × (rule.second < record_limit)
  operands =
      let early = operands_earlier (record_at v i) i i (omega arith) (construct_earlier v good i) in
      rw (d i h) (omega (arith, early.0, good.sized.most), omega (arith, early.1, good.sized.most))

  module _ (t : ℕ) (values : List Bool) (f : Filling v t values i) where
    -- it gives the truth
    given : select rule.table (get_or values rule.first false) (get_or values rule.second false) ≡ truth v t i
    given =
        ap (λ (r : Rule). select r.table (get_or values r.first false) (get_or values r.second false)) (d i h)
        ∙ rule_evaluates (record_at v i) i (λ j. get_or values j false)
        ∙ evaluate_cong i (construct_of (record_at v i)) (get_or values i false) (bit t (rank v i)) (λ j. get_or values j false)
        (truth v t)
        (λ a. f.waiting i (omega arith) h (construct_atom (record_at v i) ∙ a)) (construct_earlier v good i) f.filled.right
        ∙ sym (truth_eq v good t i)

    next : (x : Bool) → x ≡ select rule.table (get_or values rule.first false) (get_or values rule.second false)
        → Filling v t (set values i x) (i + 1)
    next x e =
        record {
          filled = fill_turn false record_limit values (truth v t) i x (omega (arith, good.sized.most)) f.filled (e ∙ given);
          waiting = λ j l k a. get_or-set_other values i j x false (λ q. omega arith) ∙ f.waiting j (omega arith) k a;
        }

pub bounds-values-rule : goal.bounds-values-rule
bounds-values-rule c =
    let p = c.args.self.now.prepared in
    (operands _ _ (prepared_good _ _ _ _ _ _ _ p) p.decoded c.loop-i.i (omega (arith, p.whole))).0

pub bounds-values-rule-in-loop-i : goal.bounds-values-rule-in-loop-i
bounds-values-rule-in-loop-i c =
    let p = c.args.self.now.prepared in
    (operands _ _ (prepared_good _ _ _ _ _ _ _ p) p.decoded c.loop-i.i (omega (arith, p.whole))).1

pub bounds-values-i : goal.bounds-values-i
bounds-values-i c =
    let p = c.args.self.now.prepared in omega (arith, p.whole, few-records _ _ _ _ _ _ _ p)

pub loop-i-preserved : goal.loop-i-preserved
loop-i-preserved c =
    let p = c.args.self.now.prepared in
    let l = c.loop-i in
    next _ _ (prepared_good _ _ _ _ _ _ _ p) p.decoded l.i (omega (arith, p.whole)) c.args.t l.values l.invariant _
    c.apply.ensures
