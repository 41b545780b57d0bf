-- `types::decode::Rule::apply` meets its contract. The index is made of the digits of the two truths.
-- Assumes nothing.
use mathlib.Core.Path.{◌∙◌}
use Rattle.records.specs.Finite.{bit}
use Rattle.types.specs.Code.Rules.{select}
use Rattle.types.proofs.Refinement.TruthRules.{from-digit}
use Rattle.types.proofs.decode.Rule.apply.Goals as goal

pub returns : goal.returns
unfolding select bit
returns c =
    rw (c.from.ensures ∙ from-digit c.args.x, c.from-2.ensures ∙ from-digit c.args.y)
