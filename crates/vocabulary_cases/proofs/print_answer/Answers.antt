-- What is written first is 0 in decimal.
use Rattle.std.specs.Fmt.{digits}
use Rattle.vocabulary_cases.proofs.print_answer.Goals as goal

pub returns-in-Ok : goal.returns-in-Ok
unfolding digits
returns-in-Ok g c = rw c.in-Ok.is (c.write.ensures.bytes)
