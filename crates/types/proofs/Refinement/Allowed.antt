-- Allowed pairs by their words.
--   allowed-inside, inside-allowed   a pair is allowed for a role when the word of the fillers at s lies within what t reaches
-- Assumes nothing.
use Prim.Native.Nat.{ℕ, ◌<◌}
use native.Mathlib.Omega.{arith}
use native.Mathlib.Decide.{dec_lt}
use mathlib.Core.Path.{◌≡◌, refl, sym, ◌∙◌}
use mathlib.Core.Bool.{Bool, true, false, not, ◌||◌, or-true}
use mathlib.Core.List.{List}
use Rattle.records.specs.Format.{count}
use Rattle.records.proofs.Laws.Tests.{clash}
use Rattle.records.specs.Finite.{bit}
use Rattle.types.specs.Meaning.{restriction_at}
use Rattle.types.specs.Types.{allows, allowed}
use Rattle.types.specs.Code.Words.{width, restriction, filler_word, reached}
use Rattle.records.proofs.Laws.Width.{bit_past}
use Rattle.types.proofs.Refinement.Restrictions.{restriction-sound, restrictions_intro, restrictions_at}
use Rattle.types.proofs.Refinement.Signed.{wants, gives, apart, allows-plain, allows-signed}
use Rattle.types.proofs.Laws.Zeta.{Inside}
use Rattle.types.proofs.Refinement.Words.{filler_word-bit, reached-bit, filler_word-small}

-- what an allowing restriction says of the three bits, and back
allows_reach : (a w g : Bool) → (a || (w || not g)) ≡ true → g ≡ true → (w || a) ≡ true
allows_reach true w g e k = or-true w
allows_reach false true g e k = refl
allows_reach false false true e k = e
allows_reach false false false e k = k

reach_allows : (a w g : Bool) → (g ≡ true → (w || a) ≡ true) → (a || (w || not g)) ≡ true
reach_allows true w g h = refl
reach_allows false true g h = refl
reach_allows false false true h = h refl
reach_allows false false false h = refl

module _ (v : List ℕ) where
  pub allowed-inside : (r t s : ℕ) → allowed v r t s ≡ true → Inside (filler_word v s) (reached v t r)
  unfolding allowed
  allowed-inside r t s e j k = at (dec_lt j (width v))
    where
      at : Dec (j < width v) → bit (reached v t r) j ≡ true
      at (yes h) =
          let i = restriction v j in
          let says = allows-signed v i r t s (restriction-sound v (count v) j h).restricts in
          let holds = restrictions_at v (λ i. allows v r t s i (restriction_at v i)) e j h in
          reached-bit v t r j h
          ∙ allows_reach (apart v r i) (wants v t i) (gives v s i) (sym says ∙ holds) (sym (filler_word-bit v s j h) ∙ k)
      at (no n) =
          let past = bit_past (width v) (filler_word v s) j (filler_word-small v s) (omega arith) in
          absurd (clash (cc))

  pub inside-allowed : (r t s : ℕ) → Inside (filler_word v s) (reached v t r) → allowed v r t s ≡ true
  unfolding allowed
  inside-allowed r t s inside =
      restrictions_intro v (λ i. allows v r t s i (restriction_at v i)) (λ i e. allows-plain v i r t s e) at
    where
      at : (m : ℕ) → m < width v → allows v r t s (restriction v m) (restriction_at v (restriction v m)) ≡ true
      at m h =
          let i = restriction v m in
          allows-signed v i r t s (restriction-sound v (count v) m h).restricts
          ∙ reach_allows (apart v r i) (wants v t i) (gives v s i)
          (λ g. sym (reached-bit v t r m h) ∙ inside m (filler_word-bit v s m h ∙ g))
