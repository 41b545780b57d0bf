-- The bytes that the numbers of a head were read from.
use Rattle.std.proofs.Common.{◌≡◌, ℕ, List, [], ◌∷◌, ◌++◌, length, slice_index, sym, ap, ◌∙◌, arith}
use Rattle.lent.specs.Told.{pair_bytes, quad_bytes}
use Rattle.lent.proofs.Heads.{from_index}

joined : (p p' q q' r r' s s' m : List ℕ) → p ≡ p' → q ≡ q' → r ≡ r' → s ≡ s'
    → p ++ q ++ r ++ s ++ m ≡ p' ++ q' ++ r' ++ s' ++ m
joined p p' q q' r r' s s' m a b c d = ap (λ l. l ++ q ++ r ++ s ++ m) a ∙ ap (λ l. p' ++ l ++ r ++ s ++ m) b
    ∙ ap (λ l. p' ++ q' ++ l ++ s ++ m) c ∙ ap (λ l. p' ++ q' ++ r' ++ l ++ m) d

pub head_read : (xs : List ℕ) (n a b lent : ℕ) → length xs ≡ 13
    → pair_bytes n ≡ slice_index xs 0 ∷ slice_index xs 1 ∷ []
    → quad_bytes a ≡ slice_index xs 2 ∷ slice_index xs 3 ∷ slice_index xs 4 ∷ slice_index xs 5 ∷ []
    → quad_bytes b ≡ slice_index xs 6 ∷ slice_index xs 7 ∷ slice_index xs 8 ∷ slice_index xs 9 ∷ []
    → pair_bytes lent ≡ slice_index xs 10 ∷ slice_index xs 11 ∷ []
    → pair_bytes n ++ quad_bytes a ++ quad_bytes b ++ pair_bytes lent ++ slice_index xs 12 ∷ [] ≡ xs
head_read xs n a b lent size one two three four = joined _ _ _ _ _ _ _ _ (slice_index xs 12 ∷ []) one two three four
    ∙ sym (from_index 13 0 xs (omega (arith, size)))
