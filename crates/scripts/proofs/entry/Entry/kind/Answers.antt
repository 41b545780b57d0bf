-- `scripts::entry::Entry::kind` meets its contract. Each number means what its case of the enum does.
-- Assumes nothing.
use Rattle.scripts.proofs.Refinement.Lines.{kind_meant}
use Rattle.scripts.proofs.entry.Entry.kind.Goals as goal

pub returns-clause-meaning : goal.returns-clause-meaning
returns-clause-meaning c =
    rw c.of.ensures (kind_meant c.args.self.w0)
