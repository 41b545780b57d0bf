-- A byte more is written, with what follows it.
use Rattle.std.proofs.Common.{rules, ◌++◌}
use Rattle.std.proofs.KnownBytes.{Appends-trans}
use Rattle.lent.specs.Told.{number_text}
use Rattle.vocabulary_cases.proofs.Steps.{byte_more}
use Rattle.vocabulary_cases.proofs.print_bytes.Goals as goal

pub loop-i-preserved : goal.loop-i-preserved
loop-i-preserved g c =
    let told = c.loop-i.invariant.0 in (
      told ++ number_text c.from.result c.after.result,
      Appends-trans _ _ _ _ _ c.loop-i.invariant.1 c.in_ok-print_number.ensures,
      byte_more _ _ told c.from.result c.after.result c.loop-i-test.true (search rules) c.after.ensures c.loop-i.invariant.2,
    )
