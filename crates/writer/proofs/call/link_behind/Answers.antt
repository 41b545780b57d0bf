-- `writer::call::link_behind` meets its contract. The new record's number has at most 16 bits.
-- Assumes nothing.
use native.Mathlib.Omega.{arith}
use Rattle.records.proofs.Theorems.Accepted.{well_formed_vocabulary}
use Rattle.writer.proofs.Refinement.Buffer.{use_length}
use Rattle.writer.proofs.call.link_behind.Goals as goal

pub overflow_cast-used : goal.overflow_cast-used
overflow_cast-used c =
    let a = c.args in
    omega (
      arith,
      (well_formed_vocabulary _ c.requires.well_formed).sized.most,
      use_length a.buffer.now a.used c.requires.used_in_bounds,
    )
