-- `types::vocabulary::SmallVocabulary::decode` meets its contract. The loop's invariant: the rules below `i` are right.
-- Assumes nothing.
use native.Mathlib.Omega.{arith}
use mathlib.Core.Path.{ap, ◌∙◌}
use Rattle.records.proofs.Laws.Filling.{fill_turn}
use Rattle.records.proofs.Theorems.Accepted.{accepted-vocabulary}
use Rattle.records.specs.declared.fields.Record.{Record}
use Rattle.types.specs.Code.Rules.{rule_for}
use Rattle.types.proofs.vocabulary.SmallVocabulary.decode.Goals as goal

pub overflow_cast-i : goal.overflow_cast-i
overflow_cast-i c =
    omega (arith, (accepted-vocabulary c.args.self.now.bytes.now _ c.args.self.now.accepted).sized.most)

pub bounds-code-i : goal.bounds-code-i
bounds-code-i c =
    omega (arith, (accepted-vocabulary c.args.self.now.bytes.now _ c.args.self.now.accepted).sized.most)

pub loop-i-preserved : goal.loop-i-preserved
loop-i-preserved c =
    let l = c.loop-i in
    let v = c.args.self.now in
    fill_turn _ _ l.code _ l.i _ (omega (arith, (accepted-vocabulary v.bytes.now _ v.accepted).sized.most)) l.invariant
    (c.of.ensures ∙ ap (λ (r : Record). rule_for r l.i) c.read_at.ensures)
