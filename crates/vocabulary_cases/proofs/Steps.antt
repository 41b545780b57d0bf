-- What one byte more adds to a line.
use Rattle.std.proofs.Common.{◌≡◌, ℕ, ◌+◌, ◌-◌, ◌<◌, List, ◌∷◌, ◌++◌, length, drop, slice_index, sym, ap, ◌∙◌, arith}
use Rattle.std.proofs.Common.{append_assoc}
use Rattle.std.proofs.lemmas.Grind.{common_steps}
use Rattle.lent.specs.Told.{number_text}
use Rattle.vocabulary_cases.specs.Lines.{byte_after, bytes_text}

pub byte_more : (xs : List ℕ) (i : ℕ) (told : List ℕ) (x follows : ℕ) → i < length xs → x ≡ slice_index xs i
    → follows ≡ byte_after (length xs - i)
    → told ++ bytes_text (drop i xs) ≡ bytes_text xs
    → (told ++ number_text x follows) ++ bytes_text (drop (i + 1) xs) ≡ bytes_text xs
byte_more xs i told x follows h here after is =
    let cut : drop i xs ≡ x ∷ drop (i + 1) xs = grind (arith, common_steps, h, here) in
    let long : length (drop (i + 1) xs) + 1 ≡ length xs - i = grind (arith, common_steps, h) in
    append_assoc told _ _ ∙ ap (λ n. told ++ (number_text x n ++ bytes_text (drop (i + 1) xs))) (after ∙ ap byte_after (sym long))
    ∙ ap (λ l. told ++ bytes_text l) (sym cut) ∙ is
