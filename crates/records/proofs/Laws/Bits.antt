-- Numbers by their bits.
--   digit-small, digit-from    a truth as a digit
--   bit-first, bit-rest        the bits of a number one bit longer
--   bit-number, number_small   the bits of a number given by them
--   number_cong, number_step   two numbers, and a number built from the top
--   halved, none_left          what is left of a number without its lowest digits
--   digits_same, bits_same     numbers with the same digits, and with the same bits
--   bit-or, bit-and            bits of a bitwise or, and of a bitwise and
--   cleared                    bits of a number without one of them
-- Assumes nothing.
use Prim.Native.Nat.{ℕ, zero, suc, ◌+◌, ◌-◌, ◌*◌, ◌/◌, ◌%◌, ◌^◌, ◌≤◌, ◌<◌}
use native.Mathlib.Omega.{arith}
use native.Mathlib.Decide.{ℕ_discrete}
use mathlib.Core.Path.{◌≡◌, refl, sym, ap, ap₂, ◌∙◌}
use mathlib.Core.Bool.{Bool, true, false, not, ◌&&◌, ◌||◌, and-true, and-false}
use lib.Dec.{eqb, eqb-zero-suc, eqb-suc-zero, eqb-suc-suc}
use lib.Bits.{bit_or, or_shr, or_mod, bit_and, and_shr, and_mod}
use lib.Pow.{shr_lt, shr-shr}
use borrow.Author.Tests.{eq-eqb, ne_eqb}
use mir.Val.{bool_byte}
use Rattle.records.specs.Finite.{bit, number, digit}

pub digit-small : (b : Bool) → digit b < 2
digit-small true = omega arith
digit-small false = omega arith

-- as `from` makes a number of a truth
pub digit-from : (b : Bool) → bool_byte b ≡ digit b
digit-from true = refl
digit-from false = refl

digit-eqb : (b : Bool) → eqb (digit b) 1 ≡ b
digit-eqb true = refl
digit-eqb false = refl

pub bit-first : (b : Bool) (x : ℕ) → bit (digit b + 2 * x) 0 ≡ b
unfolding bit
bit-first b x =
    let s = digit-small b in
    let e : (digit b + 2 * x) / 1 % 2 ≡ digit b = omega arith in
    ap (λ (y : ℕ). eqb y 1) e ∙ digit-eqb b

pub bit-rest : (b : Bool) (x j : ℕ) → bit (digit b + 2 * x) (suc j) ≡ bit x j
unfolding bit
bit-rest b x j =
    let s = digit-small b in
    let e : (digit b + 2 * x) / 2 ≡ x = omega arith in
    let p : 2 ^ (1 + j) ≡ 2 ^ suc j = ap (λ (y : ℕ). 2 ^ y) (omega arith) in
    ap (λ (y : ℕ). eqb (y % 2) 1) (ap (λ (y : ℕ). (digit b + 2 * x) / y) (sym p) ∙ sym (shr-shr (digit b + 2 * x) 1 j) ∙ ap
    (λ (y : ℕ). y / 2 ^ j) e)

pub bit-number : (n : ℕ) (f : ℕ → Bool) (j : ℕ) → j < n → bit (number n f) j ≡ f j
unfolding number
bit-number zero f j h = absurd (omega arith)
bit-number (suc n) f zero h = bit-first (f 0) (number n (λ i. f (suc i)))
bit-number (suc n) f (suc j) h = bit-rest (f 0) (number n (λ i. f (suc i))) j ∙ bit-number n (λ i. f (suc i)) j (omega arith)

pub number_small : (n : ℕ) (f : ℕ → Bool) → number n f < 2 ^ n
unfolding number
number_small zero f = omega arith
number_small (suc n) f =
    let r = number_small n (λ i. f (suc i)) in
    let s = digit-small (f 0) in
    omega arith

pub number_cong : (n : ℕ) (f g : ℕ → Bool) → ((j : ℕ) → j < n → f j ≡ g j) → number n f ≡ number n g
unfolding number
number_cong zero f g h = refl
number_cong (suc n) f g h =
    rw (h 0 (omega arith)) (ap (λ (x : ℕ). digit (g 0) + 2 * x)
    (number_cong n (λ j. f (suc j)) (λ j. g (suc j)) (λ j l. h (suc j) (omega arith))))

-- a number's half has its other bits
bit_half : (x j : ℕ) → bit (x / 2) j ≡ bit x (suc j)
unfolding bit
bit_half x j =
    let p : 2 ^ (1 + j) ≡ 2 ^ suc j = ap (λ (y : ℕ). 2 ^ y) (omega arith) in
    ap (λ (y : ℕ). eqb (y % 2) 1) (shr-shr x 1 j ∙ ap (λ (y : ℕ). x / y) p)

-- a number's digit is its bit
digit-bit : (x j : ℕ) → x / 2 ^ j % 2 ≡ digit (bit x j)
unfolding bit
digit-bit x j = at (ℕ_discrete (x / 2 ^ j % 2) 1)
  where
    at : Dec (x / 2 ^ j % 2 ≡ 1) → x / 2 ^ j % 2 ≡ digit (eqb (x / 2 ^ j % 2) 1)
    at (yes e) = rw (eq-eqb (x / 2 ^ j % 2) 1 e) e
    at (no n) = rw (ne_eqb (x / 2 ^ j % 2) 1 n) (omega arith)

last_digit : (x : ℕ) → x % 2 ≡ digit (bit x 0)
last_digit x = let own : x % 2 ≡ x / 1 % 2 = omega arith in own ∙ digit-bit x 0

-- one digit less is left
pub halved : (x n : ℕ) → x / 2 ^ n / 2 ≡ x / 2 ^ suc n
halved x n = let more : n + 1 ≡ suc n = omega arith in shr-shr x n 1 ∙ ap (λ (y : ℕ). x / 2 ^ y) more

-- numbers whose lowest n digits are the same, and what is above them
pub digits_same : (n x y : ℕ) → ((j : ℕ) → j < n → x / 2 ^ j % 2 ≡ y / 2 ^ j % 2) → x / 2 ^ n ≡ y / 2 ^ n → x ≡ y
digits_same zero x y low high = omega (arith, high)
digits_same (suc n) x y low high =
    let p = x / 2 ^ n in
    let q = y / 2 ^ n in
    let rest : p / 2 ≡ q / 2 = halved x n ∙ high ∙ sym (halved y n) in
    let last : p % 2 ≡ q % 2 = low n (omega arith) in
    digits_same n x y (λ j h. low j (omega arith)) (omega (arith, rest, last))

-- nothing is left of a number below the power
pub none_left : (n x : ℕ) → x < 2 ^ n → x / 2 ^ n ≡ 0
none_left n x h =
    let wide : 2 ^ (0 + n) ≡ 2 ^ n = ap (λ (y : ℕ). 2 ^ y) (omega arith) in
    omega (arith, shr_lt {n = x} 0 n (omega arith))

pub bits_same : (n x y : ℕ) → x < 2 ^ n → y < 2 ^ n → ((j : ℕ) → j < n → bit x j ≡ bit y j) → x ≡ y
bits_same n x y h k e =
    digits_same n x y (λ j l. digit-bit x j ∙ ap digit (e j l) ∙ sym (digit-bit y j)) (none_left n x h ∙ sym (none_left n y k))

-- what holds of all digits
on_digits : (P : ℕ → ℕ → Type 0) → P 0 0 → P 0 1 → P 1 0 → P 1 1 → (p q : ℕ) → p < 2 → q < 2 → P p q
on_digits P a b c d zero zero h k = a
on_digits P a b c d zero (suc zero) h k = b
on_digits P a b c d (suc zero) zero h k = c
on_digits P a b c d (suc zero) (suc zero) h k = d
on_digits P a b c d zero (suc (suc q)) h k = absurd (omega arith)
on_digits P a b c d (suc zero) (suc (suc q)) h k = absurd (omega arith)
on_digits P a b c d (suc (suc p)) q h k = absurd (omega arith)

-- A bitwise operation: its bits are those of the two numbers, joined by a test.
module _ (op : ℕ → ℕ → ℕ) (test : Bool → Bool → Bool) (halves : (x y j : ℕ) → op x y / 2 ^ j ≡ op (x / 2 ^ j) (y / 2 ^ j))
    (last : (x y : ℕ) → op x y % 2 ≡ op (x % 2) (y % 2))
    (digits : (p q : ℕ) → p < 2 → q < 2 → eqb (op p q) 1 ≡ test (eqb p 1) (eqb q 1)) where
  bit_op : (x y j : ℕ) → bit (op x y) j ≡ test (bit x j) (bit y j)
  unfolding bit
  bit_op x y j =
      let p = x / 2 ^ j in
      let q = y / 2 ^ j in
      ap (λ (z : ℕ). eqb (z % 2) 1) (halves x y j) ∙ ap (λ (z : ℕ). eqb z 1) (last p q)
      ∙ digits (p % 2) (q % 2) (omega arith) (omega arith)

pub bit-or : (x y j : ℕ) → bit (bit_or x y) j ≡ (bit x j || bit y j)
bit-or =
    bit_op bit_or (λ a b. a || b) or_shr (λ x y. or_mod x y 1)
    (on_digits (λ p q. eqb (bit_or p q) 1 ≡ (eqb p 1 || eqb q 1)) refl refl refl refl)

pub bit-and : (x y j : ℕ) → bit (bit_and x y) j ≡ (bit x j && bit y j)
bit-and =
    bit_op bit_and (λ a b. a && b) and_shr (λ x y. and_mod x y 1)
    (on_digits (λ p q. eqb (bit_and p q) 1 ≡ (eqb p 1 && eqb q 1)) refl refl refl refl)

-- A word built from its top bit: one bit further down.
pub number_step : (n m : ℕ) (f : ℕ → Bool) → m < n
    → number (n - m) (λ i. f (m + i)) ≡ digit (f m) + 2 * number (n - (m + 1)) (λ i. f (m + 1 + i))
unfolding number
number_step n m f h =
    let e : n - m ≡ suc (n - (m + 1)) = omega arith in
    rw e (ap₂ (λ (a b : ℕ). a + 2 * b) (ap (λ (i : ℕ). digit (f i)) (omega arith))
    (number_cong (n - (m + 1)) (λ i. f (m + suc i)) (λ i. f (m + 1 + i)) (λ j l. ap f (omega arith))))

-- What is left of x without its bit i.
pub record Cleared (x i : ℕ) : Type 0 where
  pub enough : 2 ^ i ≤ x
  pub bits : (j : ℕ) → bit (x - 2 ^ i) j ≡ (bit x j && not (eqb j i))

pub cleared : (i x : ℕ) → bit x i ≡ true → Cleared x i
cleared zero x h =
    let odd : x % 2 ≡ 1 = last_digit x ∙ ap digit h in
    let e : x - 1 ≡ digit false + 2 * (x / 2) = omega arith in
    record { enough = omega arith; bits = at e }
  where
    at : x - 1 ≡ digit false + 2 * (x / 2) → (j : ℕ) → bit (x - 1) j ≡ (bit x j && not (eqb j 0))
    at e zero = rw e (bit-first false (x / 2) ∙ sym (and-false (bit x 0)))
    at e (suc j) = rw (e, eqb-suc-zero j) (bit-rest false (x / 2) j ∙ bit_half x j ∙ sym (and-true (bit x (suc j))))
cleared (suc i) x h =
    let below = cleared i (x / 2) (bit_half x i ∙ h) in
    let last = last_digit x in
    let e : x - 2 ^ suc i ≡ digit (bit x 0) + 2 * (x / 2 - 2 ^ i) = omega (arith, below.enough) in
    record { enough = omega (arith, below.enough); bits = at e below }
  where
    at : x - 2 ^ suc i ≡ digit (bit x 0) + 2 * (x / 2 - 2 ^ i) → Cleared (x / 2) i → (j : ℕ)
        → bit (x - 2 ^ suc i) j ≡ (bit x j && not (eqb j (suc i)))
    at e below zero = rw (e, eqb-zero-suc i) (bit-first (bit x 0) (x / 2 - 2 ^ i) ∙ sym (and-true (bit x 0)))
    at e below (suc j) =
        rw e (bit-rest (bit x 0) (x / 2 - 2 ^ i) j ∙ below.bits j ∙ ap₂ (λ (a b : Bool). a && not b) (bit_half x j)
        (sym (eqb-suc-suc j i)))
