-- The paper's verdict for each case of the code's enum, and the outcome that the comparison's answer stands for.
use Rattle.std.specs.Prelude.{Result, Ok, Err}
use Rattle.records.specs.Outcome.{Outcome, accepted, refused}
use Rattle.records.specs.Refusals.{number_of}
use Rattle.records.specs.declared.refusals.Refusal.{Refusal}
use Rattle.types.specs.declared.answers.Compared.{Compared}
use Rattle.types.specs.declared.answers.Compared.TheVariants as answer
use Rattle.types.specs.Comparison.{Verdict, equal, different}

abbrev pub verdict_of : Compared → Verdict
verdict_of (answer.Equal n) = equal n.survivors n.rounds
verdict_of (answer.Different element n) = different element n.survivors n.rounds

abbrev pub compared : Result Compared Refusal → Outcome Verdict
compared (Ok answer) = accepted (verdict_of answer)
compared (Err refusal) = refused (number_of refusal.row) refusal.place
