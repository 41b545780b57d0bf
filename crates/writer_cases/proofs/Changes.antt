-- What one byte more adds to the text of the bytes that changed.
use Rattle.std.proofs.Common.{◌≡◌, ℕ, ◌+◌, ◌<◌, ◌≤◌, ◌==◌, Bool, true, false, not, List, [], ◌∷◌, ◌++◌, length, drop}
use Rattle.std.proofs.Common.{slice_index, refl, sym, ap, ◌∙◌, subst, arith, Ok, Err, Result, OnOk, append_assoc}
use Rattle.std.specs.Prelude.{◌&&◌, min}
use Rattle.std.specs.declared.option.Option.{Option}
use Rattle.std.proofs.lemmas.Grind.{common_steps}
use Rattle.std.specs.Io.KnownBytes.{Appends}
use Rattle.std.proofs.KnownBytes.{Appends-trans}
use Rattle.writer_cases.specs.Lines.{place_text, end_text, changes_from, changes_text}

pub still_none : (none same inside now : Bool) → inside ≡ not same → now ≡ (none && not inside) → now ≡ (none && same)
still_none none true inside now is so = so ∙ ap (λ b. none && not b) is
still_none none false inside now is so = so ∙ ap (λ b. none && not b) is

pub change_more : (xs ys : List ℕ) (i : ℕ) (told : List ℕ) (none inside none_now inside_now : Bool) → i < length xs
    → i < length ys
    → none_now ≡ (none && (slice_index xs i == slice_index ys i)) → inside_now ≡ not (slice_index xs i == slice_index ys i)
    → told ++ changes_from i none inside (drop i xs) (drop i ys) ≡ changes_text xs ys
    → (told ++ place_text i (slice_index xs i) (slice_index ys i) inside)
    ++ changes_from (i + 1) none_now inside_now (drop (i + 1) xs) (drop (i + 1) ys)
    ≡ changes_text xs ys
change_more xs ys i told none inside none_now inside_now h k none-is inside-is is =
    let first : drop i xs ≡ slice_index xs i ∷ drop (i + 1) xs = grind (arith, common_steps, h) in
    let second : drop i ys ≡ slice_index ys i ∷ drop (i + 1) ys = grind (arith, common_steps, k) in
    append_assoc told _ _
    ∙ ap (λ n. told ++ (place_text i (slice_index xs i) (slice_index ys i) inside
    ++ changes_from (i + 1) n inside_now (drop (i + 1) xs) (drop (i + 1) ys))) none-is
    ∙ ap (λ n. told ++ (place_text i (slice_index xs i) (slice_index ys i) inside
    ++ changes_from (i + 1) (none && (slice_index xs i == slice_index ys i)) n (drop (i + 1) xs) (drop (i + 1) ys))) inside-is
    ∙ sym (ap (λ l. told ++ changes_from i none inside l (drop i ys)) first
    ∙ ap (λ l. told ++ changes_from i none inside (slice_index xs i ∷ drop (i + 1) xs) l) second)
    ∙ is

ends_now : (zs ws : List ℕ) (i : ℕ) (none inside : Bool) → min (length zs) (length ws) ≡ 0
    → changes_from i none inside zs ws ≡ end_text none inside
ends_now [] ws i none inside h = refl
ends_now (z ∷ zs) [] i none inside h = refl
ends_now (z ∷ zs) (w ∷ ws) i none inside h = absurd (grind (arith, common_steps, h))

pub one_ends : (xs ys : List ℕ) (i : ℕ) (none inside : Bool) → min (length xs) (length ys) ≤ i
    → changes_from i none inside (drop i xs) (drop i ys) ≡ end_text none inside
one_ends xs ys i none inside h = ends_now (drop i xs) (drop i ys) i none inside (grind (arith, common_steps, h))

pub told_whole : {T E : Type 0} (r : Result T E) (a b c : Option (List ℕ)) (told rest end whole : List ℕ) → Appends a b told
    → told ++ rest ≡ whole → rest ≡ end
    → OnOk r (Appends b c end) → OnOk r (Appends a c whole)
told_whole (Ok x) a b c told rest end whole first is ends last =
    subst (Appends a c) (ap (λ l. told ++ l) (sym ends) ∙ is) (Appends-trans _ _ _ _ _ first last)
told_whole (Err e) a b c told rest end whole first is ends last = tt
