-- The bytes that the numbers of a head were read from.
use Rattle.std.proofs.Common.{◌≡◌, ℕ, ◌+◌, ◌*◌, ◌<◌, List, [], ◌∷◌, length, drop, slice_index, zero, suc, ap, ◌∙◌, arith}
use Rattle.std.specs.Int.{w16, w32, from_le_bytes}
use Rattle.std.proofs.lemmas.Grind.{common_steps}
use Rattle.lent.specs.Told.{pair_bytes, quad_bytes}

pub pair_read : (a b n : ℕ) → a < 256 → b < 256 → n ≡ from_le_bytes w16 (a ∷ b ∷ []) → pair_bytes n ≡ a ∷ b ∷ []
pair_read a b n la lb is =
    let sum : n ≡ a + 256 * b = omega (arith, is) in
    grind (arith, common_steps, la, lb, sum)

pub quad_of_sum : (a b c d n : ℕ) → a < 256 → b < 256 → c < 256 → d < 256 → n ≡ a + 256 * b + 65536 * c + 16777216 * d
    → quad_bytes n ≡ a ∷ b ∷ c ∷ d ∷ []
quad_of_sum a b c d n la lb lc ld is = grind (arith, common_steps, la, lb, lc, ld, is)

pub quad_read : (a b c d n : ℕ) → a < 256 → b < 256 → c < 256 → d < 256 → n ≡ from_le_bytes w32 (a ∷ b ∷ c ∷ d ∷ [])
    → quad_bytes n ≡ a ∷ b ∷ c ∷ d ∷ []
quad_read a b c d n la lb lc ld is = quad_of_sum a b c d n la lb lc ld (omega (arith, is))

-- so many elements from an index on, one by one
abbrev pub by_index : ℕ → ℕ → List ℕ → List ℕ
by_index zero i xs = []
by_index (suc n) i xs = slice_index xs i ∷ by_index n (i + 1) xs

-- a list from an index on, whose length is known
pub from_index : (n i : ℕ) (xs : List ℕ) → length xs ≡ i + n → drop i xs ≡ by_index n i xs
from_index zero i xs h = grind (arith, common_steps, h)
from_index (suc n) i xs h =
    let first : drop i xs ≡ slice_index xs i ∷ drop (i + 1) xs = grind (arith, common_steps, h) in
    first ∙ ap (λ l. slice_index xs i ∷ l) (from_index n (i + 1) xs (omega (arith, h)))
