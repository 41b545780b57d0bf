-- `records::atoms::count_atoms` meets its contract. The loop's invariant: `found` atoms are before record `i`.
-- Assumes nothing.
use Prim.Native.Nat.{◌≤◌}
use mathlib.Core.Path.{◌≡◌}
use Rattle.records.specs.Atoms.{rank}
use Rattle.records.proofs.atoms.count_atoms.Given as goal

abbrev pub invariant-loop-i : goal.invariant-loop-i
invariant-loop-i l =
    (l.found ≡ rank l.v l.i) × (l.found ≤ l.i)
