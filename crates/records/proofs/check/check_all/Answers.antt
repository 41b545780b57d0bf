-- `records::check::check_all` meets its contract. A vocabulary that passed rows 1 to 8 has a header.
-- Assumes nothing.
use Rattle.std.proofs.Common.{rules}
use Rattle.records.specs.Check.{IsWellFormed}
use Rattle.records.proofs.Theorems.Accepted.{well_formed_vocabulary}
use Rattle.records.proofs.check.check_all.Goals as goal

pub check_held-requires : goal.check_held-requires
check_held-requires c =
    let formed : IsWellFormed c.args.v.now = search rules in (well_formed_vocabulary _ formed).sized.least
