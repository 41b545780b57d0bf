-- `scripts::index::Index::number_all` meets its contract. The constant is numbered first; the loop's invariant: the records
-- before `i` are in the index.
-- Assumes nothing.
use Prim.Native.Nat.{ℕ}
use mathlib.Core.List.{List}
use Rattle.records.proofs.Theorems.Accepted.{AcceptedFacts, accepted-vocabulary}
use Rattle.scripts.specs.Code.Ready.{Formed}
use Rattle.scripts.proofs.Theorems.Form.{KeepsForm, keeps_form}
use Rattle.scripts.proofs.Invariants.Indexing.{index_start}
use Rattle.scripts.proofs.index.Index.number_all.Goals as goal

good : (s : List ℕ) (f : Formed s) → AcceptedFacts f.vocabulary
good s f = accepted-vocabulary _ _ f.accepted

form : (s : List ℕ) (f : Formed s) → KeepsForm f.vocabulary s
form s f = keeps_form _ _ f.form

pub loop-i-init : goal.loop-i-init
loop-i-init c =
    index_start _ _ (good _ c.requires.formed) (form _ c.requires.formed) _ _ c.requires.blank
