-- The bytes that the numbers of a head were read from, and the line of a case.
use Rattle.std.proofs.Common.{◌≡◌, ℕ, ◌+◌, ◌*◌, ◌<◌, List, [], ◌∷◌, ◌++◌, length, take, drop, slice_index}
use Rattle.std.proofs.Common.{sym, ap, ◌∙◌, arith}
use Rattle.std.specs.Prelude.{◌%◌, ◌/◌}
use Rattle.std.specs.Int.{w64, from_le_bytes}
use Rattle.lent.specs.Told.{pair_bytes, quad_bytes, filled}
use Rattle.lent.proofs.Heads.{quad_of_sum, from_index}
use Rattle.writer_cases.specs.Lines.{Case, eight_bytes, called, line_text, space_of, case_line}

pub eight_read : (a b c d e f g h n : ℕ) → a < 256 → b < 256 → c < 256 → d < 256 → e < 256 → f < 256 → g < 256 → h < 256
    → n ≡ from_le_bytes w64 (a ∷ b ∷ c ∷ d ∷ e ∷ f ∷ g ∷ h ∷ [])
    → eight_bytes n ≡ a ∷ b ∷ c ∷ d ∷ e ∷ f ∷ g ∷ h ∷ []
eight_read a b c d e f g h n la lb lc ld le lf lg lh is =
    let low = a + 256 * b + 65536 * c + 16777216 * d in
    let high = e + 256 * f + 65536 * g + 16777216 * h in
    let whole : n ≡ low + 4294967296 * high = omega (arith, is) in
    let lows : n % 4294967296 ≡ low = omega (arith, whole, la, lb, lc, ld) in
    let highs : n / 4294967296 ≡ high = omega (arith, whole, la, lb, lc, ld) in
    ap (λ l. l ++ quad_bytes (n / 4294967296)) (quad_of_sum a b c d _ la lb lc ld lows)
    ∙ ap (λ l. (a ∷ b ∷ c ∷ d ∷ []) ++ l) (quad_of_sum e f g h _ le lf lg lh highs)

joined : (p p' q q' m r r' s s' u u' : List ℕ) → p ≡ p' → q ≡ q' → r ≡ r' → s ≡ s' → u ≡ u'
    → p ++ q ++ m ++ r ++ s ++ u ≡ p' ++ q' ++ m ++ r' ++ s' ++ u'
joined p p' q q' m r r' s s' u u' a b c d e = ap (λ l. l ++ q ++ m ++ r ++ s ++ u) a
    ∙ ap (λ l. p' ++ l ++ m ++ r ++ s ++ u) b ∙ ap (λ l. p' ++ q' ++ m ++ l ++ s ++ u) c
    ∙ ap (λ l. p' ++ q' ++ m ++ r' ++ l ++ u) d ∙ ap (λ l. p' ++ q' ++ m ++ r' ++ s' ++ l) e

pub head_read : (xs : List ℕ) (n lent a b used : ℕ) → length xs ≡ 19
    → pair_bytes n ≡ slice_index xs 0 ∷ slice_index xs 1 ∷ []
    → pair_bytes lent ≡ slice_index xs 2 ∷ slice_index xs 3 ∷ []
    → pair_bytes a ≡ slice_index xs 7 ∷ slice_index xs 8 ∷ []
    → pair_bytes b ≡ slice_index xs 9 ∷ slice_index xs 10 ∷ []
    → eight_bytes used ≡ slice_index xs 11 ∷ slice_index xs 12 ∷ slice_index xs 13 ∷ slice_index xs 14 ∷ slice_index xs 15
    ∷ slice_index xs 16 ∷ slice_index xs 17 ∷ slice_index xs 18 ∷ []
    → pair_bytes n ++ pair_bytes lent ++ (slice_index xs 4 ∷ slice_index xs 5 ∷ slice_index xs 6 ∷ []) ++ pair_bytes a
    ++ pair_bytes b ++ eight_bytes used
    ≡ xs
head_read xs n lent a b used size one two three four five =
    joined _ _ _ _ (slice_index xs 4 ∷ slice_index xs 5 ∷ slice_index xs 6 ∷ []) _ _ _ _ _ _ one two three four five
    ∙ sym (from_index 19 0 xs (omega (arith, size)))

-- the line of a case whose space and buffer are as the case says
abbrev told : Case → List ℕ → List ℕ → List ℕ
told c space buffer = line_text space buffer (called buffer c.used c.call c.kind c.a c.b)

pub line_is : (c : Case) (n : ℕ) (space buffer : List ℕ) → length c.beginning ≡ n → length space ≡ 8192
    → space ≡ c.beginning ++ drop n (filled (length space) c.seed) → buffer ≡ take (n + c.lent) space
    → line_text space buffer (called buffer c.used c.call c.kind c.a c.b) ≡ case_line c
line_is c n space buffer size large holds part =
    let whole : space ≡ space_of c = holds ∙ ap (λ m. c.beginning ++ drop n (filled m c.seed)) large
    ∙ ap (λ m. c.beginning ++ drop m (filled 8192 c.seed)) (sym size) in
    let front : buffer ≡ take (length c.beginning + c.lent) (space_of c) = part ∙ ap (λ m. take (m + c.lent) space) (sym size)
    ∙ ap (take (length c.beginning + c.lent)) whole in
    ap (λ l. told c l buffer) whole ∙ ap (told c (space_of c)) front
