-- `types::bitmap::write_bitmap` meets its contract. The bytes past the types, which are cleared, have no bit.
-- Assumes nothing.
use Prim.Native.Nat.{ℕ, ◌+◌, ◌-◌, ◌/◌}
use native.Mathlib.Omega.{arith}
use borrow.Rule.Slice.PartMut.{put_mid}
use mathlib.Core.Path.{◌≡◌, ◌∙◌, ap, ap₂}
use lib.ListN.{replicate, length-drop}
use Rattle.std.proofs.lemmas.List.{length-take}
use Rattle.types.specs.Comparison.{bitmap_bytes}
use Rattle.types.specs.Bitmap.{byte_of}
use Rattle.records.proofs.Laws.Filling.{table_over}
use Rattle.types.proofs.Invariants.Answers.{byte_none, zeros_over}
use Rattle.types.proofs.bitmap.write_bitmap.Goals as goal

pub returns : goal.returns
returns c =
    let a = c.args in
    let end = (a.size + 7) / 8 in
    let zeros : c.fill.new.self ≡ replicate (bitmap_bytes - end) 0 =
    c.fill.ensures.after (λ y e. e) ∙ ap (λ (n : ℕ). replicate n 0) (simp (length-take, length-drop) (omega arith)) in
    ap₂ (put_mid end (bitmap_bytes - end)) c.write_types.ensures zeros
    ∙ zeros_over (byte_of a.alive.now) a.lent.now end (bitmap_bytes - end)
    (λ n h. byte_none a.alive.now n (λ t k. c.requires.by_index t (omega arith))) (omega arith)
    ∙ ap (λ (n : ℕ). table_over (byte_of a.alive.now) n a.lent.now) (omega arith)
