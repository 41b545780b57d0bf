-- Numbers below a power of two.
--   bit_past, bit-zero   there are no bits past the power
--   bit_ones             the largest has all bits below it
--   bit-low, bit_high    the bits of what is below the power, and of what is above it
--   bits_everywhere      numbers with the same bits, whatever their width
-- Assumes nothing.
use Prim.Native.Nat.{ℕ, zero, suc, ◌+◌, ◌-◌, ◌*◌, ◌/◌, ◌%◌, ◌^◌, ◌≤◌, ◌<◌}
use native.Mathlib.Omega.{arith}
use mathlib.Core.Path.{◌≡◌, sym, ap, ◌∙◌}
use mathlib.Core.Bool.{Bool, true, false, ◌&&◌, and-true}
use lib.Dec.{eqb}
use lib.Bits.{and_mask}
use lib.Pow.{pow_pos, pow_mono, shr-shr}
use Rattle.records.specs.Finite.{bit, digit}
use Rattle.records.proofs.Laws.Bits.{bit-first, bit-rest, none_left, bits_same, bit-and}

pub bit_past : (n x j : ℕ) → x < 2 ^ n → n ≤ j → bit x j ≡ false
unfolding bit
bit_past n x j h l =
    let wide : 2 ^ n ≤ 2 ^ j = pow_mono l in
    ap (λ (y : ℕ). eqb (y % 2) 1) (none_left j x (omega arith))

pub bit-zero : (j : ℕ) → bit 0 j ≡ false
bit-zero j = bit_past 0 0 j (omega arith) (omega arith)

pub bit_ones : (n j : ℕ) → j < n → bit (2 ^ n - 1) j ≡ true
bit_ones zero j h = absurd (omega arith)
bit_ones (suc n) j h = at j h (bit_ones n)
  where
    all : 2 ^ suc n - 1 ≡ digit true + 2 * (2 ^ n - 1)
    all = omega (arith, pow_pos n)

    at : (j : ℕ) → j < suc n → ((j : ℕ) → j < n → bit (2 ^ n - 1) j ≡ true) → bit (2 ^ suc n - 1) j ≡ true
    at zero k r = rw all (bit-first true (2 ^ n - 1))
    at (suc j) k r = rw all (bit-rest true (2 ^ n - 1) j ∙ r j (omega arith))

pub bit-low : (n x j : ℕ) → j < n → bit (x % 2 ^ n) j ≡ bit x j
bit-low n x j h =
    ap (λ (y : ℕ). bit y j) (sym (and_mask x n)) ∙ bit-and x (2 ^ n - 1) j
    ∙ ap (λ (b : Bool). bit x j && b) (bit_ones n j h) ∙ and-true (bit x j)

pub bit_high : (n x j : ℕ) → bit (x / 2 ^ n) j ≡ bit x (n + j)
unfolding bit
bit_high n x j = ap (λ (y : ℕ). eqb (y % 2) 1) (shr-shr x n j)

below_power : (x : ℕ) → x < 2 ^ x
below_power zero = omega arith
below_power (suc x) = omega (arith, below_power x)

pub bits_everywhere : (x y : ℕ) → ((j : ℕ) → bit x j ≡ bit y j) → x ≡ y
bits_everywhere x y e =
    let wide = below_power (x + y) in
    bits_same (x + y) x y (omega arith) (omega arith) (λ j l. e j)
