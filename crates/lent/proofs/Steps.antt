-- What one byte more adds to what is told of bytes.
use Rattle.std.proofs.Common.{◌≡◌, ℕ, ◌+◌, ◌<◌, List, [], ◌∷◌, ◌++◌, length, take, slice_index, sym, ap, ◌∙◌, arith}
use Rattle.std.proofs.Common.{refl, zero, suc}
use Rattle.std.proofs.Common.{append_assoc, append-nil}
use Rattle.std.specs.Prelude.{◌%◌}
use Rattle.std.proofs.lemmas.Grind.{common_steps}
use Rattle.std.proofs.Math.Nat.{mod-add-mod, add-mul, add_comm}
use Rattle.std.specs.List.{sum}
use Rattle.lent.specs.Told.{hex_pair, hex_text, used_len, sum_of_sums}

take-more : (xs : List ℕ) (i : ℕ) → i < length xs → take (i + 1) xs ≡ take i xs ++ slice_index xs i ∷ []
take-more xs i h = grind (arith, common_steps, h)

hex_text-snoc : (xs : List ℕ) (x : ℕ) → hex_text (xs ++ x ∷ []) ≡ hex_text xs ++ hex_pair x
hex_text-snoc [] x = append-nil (hex_pair x)
hex_text-snoc (y ∷ ys) x = ap (λ l. hex_pair y ++ l) (hex_text-snoc ys x)
    ∙ sym (append_assoc (hex_pair y) (hex_text ys) (hex_pair x))

pub hex_text-more : (xs : List ℕ) (i : ℕ) → i < length xs
    → hex_text (take i xs) ++ hex_pair (slice_index xs i) ≡ hex_text (take (i + 1) xs)
hex_text-more xs i h = sym (hex_text-snoc (take i xs) (slice_index xs i)) ∙ ap hex_text (sym (take-more xs i h))

-- bytes that are all 0 use none
pub used_len-none : (xs : List ℕ) → ((k : ℕ) → k < length xs → slice_index xs k ≡ 0) → 0 ≡ used_len xs
used_len-none [] all = refl
used_len-none (x ∷ xs) all =
    let first : x ≡ 0 = all 0 (omega arith) in
    grind (arith, common_steps, first, used_len-none xs (λ k h. all (suc k) (omega (arith, h))))

-- bytes end at the last of them that is not 0
pub used_len-last : (xs : List ℕ) (last : ℕ) → last < length xs → 0 < slice_index xs last
    → ((k : ℕ) → last < k → k < length xs → slice_index xs k ≡ 0) → last + 1 ≡ used_len xs
used_len-last [] last h more all = absurd (omega (arith, h))
used_len-last (x ∷ xs) zero h more all =
    grind (arith, common_steps, more, used_len-none xs (λ k h. all (suc k) (omega arith) (omega (arith, h))))
used_len-last (x ∷ xs) (suc n) h more all =
    grind (
      arith,
      common_steps,
      used_len-last xs n (omega (arith, h)) more
          (λ k b h. all (suc k) (omega (arith, b)) (omega (arith, h))),
    )

sum-snoc : (xs : List ℕ) (x : ℕ) → sum (xs ++ x ∷ []) ≡ sum xs + x
sum-snoc xs x = grind (arith, common_steps)

sum_of_sums-snoc : (xs : List ℕ) (x : ℕ) → sum_of_sums (xs ++ x ∷ []) ≡ sum_of_sums xs + (sum xs + x)
sum_of_sums-snoc [] x = grind (arith, common_steps)
sum_of_sums-snoc (y ∷ ys) x =
    let long : length (ys ++ x ∷ []) ≡ length ys + 1 = grind (arith, common_steps) in
    grind (arith, common_steps, sum_of_sums-snoc ys x, add-mul (length ys + 1) 1 y, long)

mod-both : (a b m : ℕ) → (a % m + b % m) % m ≡ (a + b) % m
mod-both a b m = mod-add-mod a m (b % m) ∙ ap (λ n. n % m) (add_comm a (b % m)) ∙ mod-add-mod b m a
    ∙ ap (λ n. n % m) (add_comm b a)

pub sums-more : (m : ℕ) (xs : List ℕ) (i x low high : ℕ) → i < length xs → x ≡ slice_index xs i → low ≡ sum (take i xs) % m
    → high ≡ sum_of_sums (take i xs) % m
    → ((low + x) % m ≡ sum (take (i + 1) xs) % m)
    × ((high + (low + x) % m) % m ≡ sum_of_sums (take (i + 1) xs) % m)
sums-more m xs i x low high h is l k =
    let more : take (i + 1) xs ≡ take i xs ++ x ∷ [] = take-more xs i h ∙ ap (λ y. take i xs ++ y ∷ []) (sym is) in
    let first : (low + x) % m ≡ sum (take (i + 1) xs) % m = ap (λ n. (n + x) % m) l ∙ mod-add-mod (sum (take i xs)) m x
    ∙ ap (λ n. n % m) (sym (ap sum more ∙ sum-snoc (take i xs) x)) in
    let both : sum_of_sums (take (i + 1) xs) ≡ sum_of_sums (take i xs) + sum (take (i + 1) xs) = ap sum_of_sums more
    ∙ sum_of_sums-snoc (take i xs) x
    ∙ ap (λ n. sum_of_sums (take i xs) + n) (sym (ap sum more ∙ sum-snoc (take i xs) x)) in (
      first,
      ap (λ n. (n + (low + x) % m) % m) k ∙ ap (λ n. (sum_of_sums (take i xs) % m + n) % m) first
          ∙ mod-both (sum_of_sums (take i xs)) (sum (take (i + 1) xs)) m ∙ ap (λ n. n % m) (sym both),
    )
