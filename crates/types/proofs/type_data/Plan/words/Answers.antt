-- `types::type_data::Plan::words` meets its contract. The loop's invariant: both words have the bits from `m` on.
-- Assumes nothing.
use Prim.Native.Nat.{◌-◌}
use native.Mathlib.Omega.{arith}
use mathlib.Core.Bool.{Bool, true, false, beq, not}
use mathlib.Core.Path.{◌≡◌, refl, ◌∙◌}
use lib.ListN.{length}
use Rattle.records.proofs.Laws.Filling.{word_start, word_turn, word_bound}
use Rattle.types.specs.Code.Words.{signed}
use Rattle.types.specs.Comparison.{atom_limit}
use Rattle.types.proofs.Refinement.TypeData.{listing_bounded}
use Rattle.types.proofs.type_data.Plan.words.Invariants.{bits}
use Rattle.types.proofs.type_data.Plan.words.Goals as goal

-- either bit, but not both, is the truth signed
xor-signed : (x universal : Bool) → not (beq x universal) ≡ signed universal x
xor-signed true true = refl
xor-signed true false = refl
xor-signed false true = refl
xor-signed false false = refl

pub loop-m-init : goal.loop-m-init
loop-m-init c =
    let list = c.args.self.now.restrictions.now in
    let values = c.args.values.now in record {
      held_words = word_start (length list) (bits values (λ r. r.place) list);
      filling_words = word_start (length list) (bits values (λ r. r.filler) list);
    }

pub bounds-values-place : goal.bounds-values-place
bounds-values-place c =
    (listing_bounded _ _ _ _ _ _ _ c.args.self.now.prepared).place_below (c.loop-m.m - 1) (omega arith)

pub bounds-values-filler : goal.bounds-values-filler
bounds-values-filler c =
    (listing_bounded _ _ _ _ _ _ _ c.args.self.now.prepared).filler_below (c.loop-m.m - 1) (omega arith)

pub push_bit-held-requires : goal.push_bit-held-requires
push_bit-held-requires c =
    let list = c.args.self.now.restrictions.now in
    word_bound (length list) (bits c.args.values.now (λ r. r.place) list) atom_limit c.loop-m.m _
    (listing_bounded _ _ _ _ _ _ _ c.args.self.now.prepared).few
    c.loop-m.invariant.held_words

pub push_bit-filling-requires : goal.push_bit-filling-requires
push_bit-filling-requires c =
    let list = c.args.self.now.restrictions.now in
    word_bound (length list) (bits c.args.values.now (λ r. r.filler) list) atom_limit c.loop-m.m _
    (listing_bounded _ _ _ _ _ _ _ c.args.self.now.prepared).few
    c.loop-m.invariant.filling_words

pub loop-m-preserved : goal.loop-m-preserved
loop-m-preserved c =
    let list = c.args.self.now.restrictions.now in
    let values = c.args.values.now in
    let w = c.loop-m.invariant in record {
      held_words =
          c.push_bit-held.ensures
          ∙ word_turn (length list) (bits values (λ r. r.place) list) c.loop-m.m c.loop-m.held _ (omega arith)
          (omega arith) w.held_words (xor-signed _ _);
      filling_words =
          c.push_bit-filling.ensures
          ∙ word_turn (length list) (bits values (λ r. r.filler) list) c.loop-m.m c.loop-m.filling _ (omega arith)
          (omega arith) w.filling_words (xor-signed _ _);
    }
