-- `types::settle::settle_types` meets its contract. There is a header, since the vocabulary is accepted.
-- Assumes nothing.
use Prim.Native.Nat.{◌<◌}
use native.Mathlib.Omega.{arith}
use Rattle.records.specs.Format.{count}
use Rattle.records.proofs.Theorems.Accepted.{accepted-vocabulary}
use Rattle.types.proofs.settle.settle_types.Goals as goal

pub invariant_of-header : goal.invariant_of-header
invariant_of-header c =
    let v = c.args.v.now in
    let some : 0 < count v = omega (arith, (accepted-vocabulary v _ c.requires.settleable.accepts).sized.least) in
    record { first = some; second = some }
