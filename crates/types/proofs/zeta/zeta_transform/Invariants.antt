-- `types::zeta::zeta_transform` meets its contract. The loop's invariant: the first 2^bits entries are transformed over the
-- bits below n.
-- Assumes nothing.
use Prim.Native.Nat.{◌^◌}
use Rattle.types.specs.Code.Elimination.{ZetaTo}
use Rattle.types.proofs.zeta.zeta_transform.Given as goal

abbrev pub invariant-loop-n : goal.invariant-loop-n
invariant-loop-n l =
    ZetaTo l.n (2 ^ l.bits) l.initial.joins l.joins
