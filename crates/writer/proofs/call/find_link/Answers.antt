-- `writer::call::find_link` meets its contract. The link stands in the header, or in the record that ends the chain, and
-- so its place fits.
-- Assumes nothing.
use native.Mathlib.Omega.{arith}
use Rattle.records.proofs.Theorems.Accepted.{well_formed_vocabulary}
use Rattle.writer.proofs.Theorems.Grown.{end_small, end_within}
use Rattle.writer.proofs.call.find_link.Goals as goal

-- The place is small,
-- since the chain ends at one of few records.
pub overflow_mul-result : goal.overflow_mul-result
overflow_mul-result c =
    omega (arith, c.find_end.ensures, end_small c.args.v.now (well_formed_vocabulary _ c.requires))

pub overflow_add-result : goal.overflow_add-result
overflow_add-result c =
    omega (arith, c.find_end.ensures, end_small c.args.v.now (well_formed_vocabulary _ c.requires))

pub returns-in-0-clause-within : goal.returns-in-0-clause-within
returns-in-0-clause-within c = omega (arith, (well_formed_vocabulary _ c.requires).sized.least)

pub returns-in_default-clause-within : goal.returns-in_default-clause-within
returns-in_default-clause-within c =
    let good = well_formed_vocabulary _ c.requires in
    omega (arith, c.find_end.ensures, end_within c.args.v.now good, good.sized.whole)
