-- `types::bitmap::byte_of` meets its contract. The loop's invariant: `byte` is the number of the bits from `j` on.
-- Assumes nothing.
use native.Mathlib.Omega.{arith}
use mathlib.Core.Path.{◌≡◌, refl, ◌∙◌}
use Rattle.types.specs.Bitmap.{byte_of}
use Rattle.records.proofs.Laws.Bits.{number_small}
use Rattle.records.proofs.Laws.Filling.{word_start, word_turn, word_end, word_bound}
use Rattle.types.specs.Comparison.{atom_limit}
use Rattle.types.proofs.bitmap.byte_of.Invariants.{bits}
use Rattle.types.proofs.bitmap.byte_of.Goals as goal

pub loop-j-init : goal.loop-j-init
loop-j-init c =
    word_start 8 (bits c.args.alive.now c.args.n)

pub push_bit-byte-requires : goal.push_bit-byte-requires
push_bit-byte-requires c =
    let a = c.args in
    word_bound 8 (bits a.alive.now a.n) atom_limit c.loop-j.j _ (omega arith) c.loop-j.invariant

pub loop-j-preserved : goal.loop-j-preserved
loop-j-preserved c =
    let a = c.args in
    c.push_bit-byte.ensures
    ∙ word_turn 8 (bits a.alive.now a.n) c.loop-j.j c.loop-j.byte _ (omega arith) (omega arith) c.loop-j.invariant refl

pub overflow_cast-result : goal.overflow_cast-result
overflow_cast-result c =
    let a = c.args in
    let whole : c.loop-j.byte ≡ byte_of a.alive.now a.n =
    word_end 8 (bits a.alive.now a.n) c.loop-j.j _ (omega arith) c.loop-j.invariant in
    omega (arith, whole, number_small 8 (bits a.alive.now a.n))
