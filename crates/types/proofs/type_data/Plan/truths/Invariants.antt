-- `types::type_data::Plan::truths` meets its contract. The loop's invariant: the truths are right below `i`, and those of
-- the atoms from there on.
-- Assumes nothing.
use Prim.Native.Nat.{ℕ, ◌≤◌, ◌<◌}
use mathlib.Core.Bool.{Bool, true, false}
use mathlib.Core.List.{List}
use mathlib.Core.Path.{◌≡◌}
use lib.ListN.{get_or}
use Rattle.records.specs.Atoms.{rank}
use Rattle.records.specs.Format.{count, record_at, record_limit}
use Rattle.records.specs.Kinds.{is_atom}
use Rattle.records.specs.Finite.{bit}
use Rattle.types.specs.Types.{truth}
use Rattle.records.proofs.Laws.Filling.{Filled}
use Rattle.types.proofs.type_data.Plan.truths.Given as goal

pub record Filling (v : List ℕ) (t : ℕ) (values : List Bool) (i : ℕ) : Type 0 where
  pub filled : Filled false record_limit values (truth v t) i
  pub waiting : (j : ℕ) → i ≤ j → j < count v → is_atom (record_at v j).kind ≡ true → get_or values j false ≡ bit t (rank v j)

abbrev pub invariant-loop-i : goal.invariant-loop-i
invariant-loop-i l =
    Filling l.self.v.now l.t l.values l.i
