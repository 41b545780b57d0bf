-- The head and the vocabulary are the case.
use Rattle.std.proofs.Common.{◌≡◌, ◌++◌, rules, arith, length, subst}
use Rattle.std.proofs.lemmas.Grind.{common_steps}
use Rattle.std.specs.Io.KnownBytes.{Consumes}
use Rattle.std.proofs.KnownBytes.{Consumes-trans}
use Rattle.vocabulary_cases.specs.Lines.{Case, case_bytes}
use Rattle.vocabulary_cases.proofs.VocabularyCasesProgram.run_case.Goals as goal

pub returns : goal.returns
returns g c =
    let case : Case = record { number = c.from-head.result.number; vocabulary = c.in-Some-2.v.now } in
    let size : length case.vocabulary ≡ c.from-head.result.length = search rules in
    let whole : c.in-Some.bytes ++ case.vocabulary ≡ case_bytes case = grind (arith, common_steps, c.from-head.ensures, size) in (
      case,
      search rules,
      subst (Consumes _ _) whole (Consumes-trans _ _ _ _ _ (rw c.in-Some.is at c.in_ok-bytes.ensures) (search rules)),
      c.in_ok-print_case.ensures,
    )
