-- `types::type_data::Plan::words` meets its contract. The loop's invariant: both words have the bits from `m` on.
-- Assumes nothing.
use Prim.Native.Nat.{ℕ}
use mathlib.Core.Bool.{Bool, false}
use mathlib.Core.List.{List}
use mathlib.Core.Path.{◌≡◌}
use lib.ListN.{length, get_or}
use Rattle.types.specs.Code.Words.{signed}
use Rattle.types.specs.Code.Settling.{no_restriction}
use Rattle.types.specs.declared.restrict.Restriction.{Restriction}
use Rattle.records.proofs.Laws.Filling.{word_from}
use Rattle.types.proofs.type_data.Plan.words.Given as goal

-- bit m of the word of a place of each restriction
abbrev pub bits : List Bool → (Restriction → ℕ) → List Restriction → ℕ → Bool
bits values place list m =
    signed (get_or list m no_restriction).universal (get_or values (place (get_or list m no_restriction)) false)

pub record Building (values : List Bool) (list : List Restriction) (held filling m : ℕ) : Type 0 where
  pub held_words : held ≡ word_from (length list) (bits values (λ r. r.place) list) m
  pub filling_words : filling ≡ word_from (length list) (bits values (λ r. r.filler) list) m

abbrev pub invariant-loop-m : goal.invariant-loop-m
invariant-loop-m l =
    Building l.values l.self.restrictions.now l.held l.filling l.m
