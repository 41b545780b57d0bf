-- Each turn of the loop has run a case.
use Rattle.lent.proofs.Cases.{Ran}
use Rattle.lent.proofs.run_all.Given as goal

abbrev pub invariant-loop : goal.invariant-loop
invariant-loop g l = Ran g.P.Program.Fits g.P.Program.bytes g.P.Program.line (g.R.Read.remaining l.initial.input)
    (g.R.Read.remaining l.input)
    (g.W.Write.contents l.initial.out)
    (g.W.Write.contents l.out) l.counter
