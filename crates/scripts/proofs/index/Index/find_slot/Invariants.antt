-- `scripts::index::Index::find_slot` meets its contract. The loop's invariant: the search has come to the slot, over records of
-- other codes, and `rest` is what is left of the code. It ends since links lead to later records.
-- Assumes nothing.
use Prim.Native.Nat.{ℕ, ◌-◌, ◌/◌, ◌^◌}
use mathlib.Core.Path.{◌≡◌}
use mathlib.Core.List.{List}
use lib.ListN.{length}
use Rattle.scripts.specs.Code.Index.{CameTo}
use Rattle.scripts.proofs.index.Index.find_slot.Given as goal

-- how far the search has come
pub record Searching (links terms : List ℕ) (code slot rest : ℕ) : Type 0 where
  pub steps : ℕ
  pub came : CameTo links terms code slot steps
  pub left : rest ≡ code / 2 ^ steps

abbrev pub invariant-loop-slot : goal.invariant-loop-slot
invariant-loop-slot l =
    Searching l.self.links.now l.self.terms.now l.code l.slot l.rest

abbrev pub decreases-loop-slot : goal.decreases-loop-slot
decreases-loop-slot l =
    length l.self.links.now - l.slot
