-- `taxonomy::meets::meet_part` meets its contract. The loop's invariant: the words below `x` whose place has the bit are met.
-- Assumes nothing.
use Prim.Native.Nat.{ℕ, ◌<◌}
use mathlib.Core.Path.{◌≡◌}
use Rattle.records.specs.Finite.{bit}
use Rattle.types.specs.Comparison.{atom_limit}
use Rattle.taxonomy.specs.Code.Meets.{jointly}
use Rattle.taxonomy.proofs.meets.meet_part.Given as goal

abbrev pub invariant-loop-x : goal.invariant-loop-x
invariant-loop-x l = (q : ℕ) → q < atom_limit → bit l.word q ≡ jointly l.table l.p l.x q
