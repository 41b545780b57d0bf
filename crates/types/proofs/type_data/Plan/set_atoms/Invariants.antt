-- `types::type_data::Plan::set_atoms` meets its contract. The loop's invariant: the first `j` atoms have their truths.
-- Assumes nothing.
use Prim.Native.Nat.{ℕ, ◌<◌}
use mathlib.Core.Bool.{Bool, true, false}
use mathlib.Core.List.{List}
use mathlib.Core.Path.{◌≡◌}
use lib.ListN.{get_or}
use Rattle.records.specs.Atoms.{rank}
use Rattle.records.specs.Format.{count, record_at}
use Rattle.records.specs.Kinds.{is_atom}
use Rattle.records.specs.Finite.{bit}
use Rattle.types.proofs.type_data.Plan.set_atoms.Given as goal

abbrev pub Setting : List ℕ → ℕ → List Bool → ℕ → Type 0
Setting v t values j =
    (i : ℕ) → i < count v → is_atom (record_at v i).kind ≡ true → rank v i < j → get_or values i false ≡ bit t (rank v i)

abbrev pub invariant-loop-j : goal.invariant-loop-j
invariant-loop-j l =
    Setting l.self.v.now l.t l.values l.j
