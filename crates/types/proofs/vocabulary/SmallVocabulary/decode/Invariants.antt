-- `types::vocabulary::SmallVocabulary::decode` meets its contract. The loop's invariant: the rules below `i` are right.
-- Assumes nothing.
use Rattle.records.proofs.Laws.Filling.{Filled}
use Rattle.records.specs.Format.{record_at, record_limit}
use Rattle.types.specs.Code.Rules.{rule_for, no_rule}
use Rattle.types.proofs.vocabulary.SmallVocabulary.decode.Given as goal

abbrev pub invariant-loop-i : goal.invariant-loop-i
invariant-loop-i l =
    Filled no_rule record_limit l.code (λ j. rule_for (record_at l.self.bytes.now j) j) l.i
