-- What is read and written of numbers and of bytes.
use Rattle.std.specs.Prelude.{ℕ, zero, suc, ◌+◌, ◌*◌, ◌-◌, ◌/◌, ◌%◌, ◌^◌, ◌==◌, List, [], ◌∷◌, ◌++◌, length, take, false}
use Rattle.std.specs.Prelude.{if◌then◌else◌}
use Rattle.std.specs.List.{sum}
use Rattle.std.specs.Fmt.{decimal, digits, padded_integral, format_spec}

-- a number in two bytes, low byte first
abbrev pub pair_bytes : ℕ → List ℕ
pair_bytes n = n % 256 ∷ n / 256 ∷ []

-- a number in four bytes, low byte first
abbrev pub quad_bytes : ℕ → List ℕ
quad_bytes n = pair_bytes (n % 65536) ++ pair_bytes (n / 65536)

-- a number in decimal, and the byte that follows it
abbrev pub number_text : ℕ → ℕ → List ℕ
number_text n after = decimal n ++ after ∷ []

-- a refusal's number and place, and the byte that follows
abbrev pub refusal_text : ℕ → ℕ → ℕ → List ℕ
refusal_text number place after = number_text number 32 ++ number_text place after

-- a number as `{:02x}` writes it: a byte as two hexadecimal digits
abbrev pub hex_pair : ℕ → List ℕ
hex_pair n = padded_integral (format_spec 32 0 4 2 (2 ^ 64 - 1)) false [] (digits 16 false n)

-- each byte as two hexadecimal digits
abbrev pub hex_text : List ℕ → List ℕ
hex_text [] = []
hex_text (x ∷ xs) = hex_pair x ++ hex_text xs

-- how many bytes stand before and at the last that is not 0
abbrev pub used_len : List ℕ → ℕ
used_len [] = 0
used_len (x ∷ xs) = if used_len xs == 0 then (if x == 0 then 0 else 1) else used_len xs + 1

-- what lent bytes hold: byte i is 7 i + seed, modulo 256
unfoldable pub filled : ℕ → ℕ → List ℕ
filled zero seed = []
filled (suc n) seed = filled n seed ++ (7 * n + seed) % 256 ∷ []

-- the sum of the sums after each byte: the first counts as often as there are bytes, the last once
abbrev pub sum_of_sums : List ℕ → ℕ
sum_of_sums [] = 0
sum_of_sums (x ∷ xs) = (length xs + 1) * x + sum_of_sums xs

-- the bytes before an end in hexadecimal, or a dash where the end is 0, and a space
abbrev pub written_text : List ℕ → ℕ → List ℕ
written_text xs end = if end == 0 then 45 ∷ 32 ∷ [] else hex_text (take end xs) ++ 32 ∷ []

-- the sum of the bytes and the sum of their sums, modulo 2 ^ 64, and the byte that follows
abbrev pub sums_text : List ℕ → ℕ → List ℕ
sums_text xs after = number_text (sum xs % 2 ^ 64) 32 ++ number_text (sum_of_sums xs % 2 ^ 64) after
