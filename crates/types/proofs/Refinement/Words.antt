-- The words of the served test, bit by bit.
--   restriction_word-bit, filler_word-bit, other_role_word-bit, reached-bit           the bits of a word
--   restriction_word-small, filler_word-small, other_role_word-small, reached-small   it has no more bits than there are
--   restrictions
--   Fills, joins_intro, joins_elim                                                the bits of a join
--   joins-small                                                                   it has no more
-- Assumes nothing.
use Prim.Native.Nat.{ℕ, ◌^◌, ◌≤◌, ◌<◌}
use native.Mathlib.Omega.{arith}
use mathlib.Core.Path.{◌≡◌, refl, sym, ap, ap₂, subst, ◌∙◌}
use mathlib.Core.Bool.{Bool, true, false, cond, ◌&&◌, ◌||◌}
use mathlib.Core.List.{List}
use lib.Dec.{eqb}
use lib.Bits.{or_lt}
use borrow.Author.Tests.{eqb-true, eq-eqb}
use Rattle.records.specs.Finite.{any_below, has, bit}
use Rattle.records.proofs.Laws.Tests.{clash, both_left, both_right}
use Rattle.records.proofs.Laws.Search.{any_intro, any_elim}
use Rattle.types.specs.Types.{types}
use Rattle.types.specs.Code.Words.{width, restriction, restriction_word, filler_word, other_role_word, present_word, joins}
use Rattle.types.specs.Code.Words.{reached}
use Rattle.records.proofs.Laws.Bits.{bit-number, number_small, bit-or}
use Rattle.records.proofs.Laws.Width.{bit_past, bit-zero}
use Rattle.types.proofs.Refinement.Signed.{wants, gives, apart}
use Rattle.types.proofs.Laws.Zeta.{Inside, Under, zeta_intro, zeta_elim, zeta-small}

-- A type of the set whose word of the fillers is within x and has bit j.
pub record Fills (v : List ℕ) (S : List Bool) (x j : ℕ) : Type 0 where
  pub by : ℕ
  pub below : by < types v
  pub member : has S by ≡ true
  pub inside : Inside (filler_word v by) x
  pub holds : bit (filler_word v by) j ≡ true

module _ (v : List ℕ) where
  pub restriction_word-bit : (t m : ℕ) → m < width v → bit (restriction_word v t) m ≡ wants v t (restriction v m)
  unfolding restriction_word
  restriction_word-bit t m h = bit-number (width v) (λ m. wants v t (restriction v m)) m h

  pub filler_word-bit : (s m : ℕ) → m < width v → bit (filler_word v s) m ≡ gives v s (restriction v m)
  unfolding filler_word
  filler_word-bit s m h = bit-number (width v) (λ m. gives v s (restriction v m)) m h

  pub other_role_word-bit : (r m : ℕ) → m < width v → bit (other_role_word v r) m ≡ apart v r (restriction v m)
  unfolding other_role_word
  other_role_word-bit r m h = bit-number (width v) (λ m. apart v r (restriction v m)) m h

  pub reached-bit : (t r m : ℕ) → m < width v
      → bit (reached v t r) m ≡ (wants v t (restriction v m) || apart v r (restriction v m))
  reached-bit t r m h =
      bit-or (restriction_word v t) (other_role_word v r) m ∙ ap₂ (λ (a b : Bool). a || b) (restriction_word-bit t m h)
      (other_role_word-bit r m h)

  pub restriction_word-small : (t : ℕ) → restriction_word v t < 2 ^ width v
  unfolding restriction_word
  restriction_word-small t = number_small (width v) (λ m. wants v t (restriction v m))

  pub filler_word-small : (s : ℕ) → filler_word v s < 2 ^ width v
  unfolding filler_word
  filler_word-small s = number_small (width v) (λ m. gives v s (restriction v m))

  pub other_role_word-small : (r : ℕ) → other_role_word v r < 2 ^ width v
  unfolding other_role_word
  other_role_word-small r = number_small (width v) (λ m. apart v r (restriction v m))

  pub reached-small : (t r : ℕ) → reached v t r < 2 ^ width v
  reached-small t r = or_lt (width v) (restriction_word v t) (other_role_word v r) (restriction_word-small t)
      (other_role_word-small r)

  -- a word within x has x's bits past the width: none
  filler_word_under : (s x : ℕ) → x < 2 ^ width v → Inside (filler_word v s) x → Under (width v) (filler_word v s) x
  filler_word_under s x h i =
      record {
        inside = i;
        above = λ j l. bit_past (width v) (filler_word v s) j (filler_word-small s) l ∙ sym (bit_past (width v) x j h l);
      }

  -- a word that is present
  abbrev filling : List Bool → ℕ → ℕ → Bool
  filling S y s = has S s && eqb (filler_word v s) y

  present_word_intro : (S : List Bool) (s : ℕ) → s < types v → has S s ≡ true
      → present_word v S (filler_word v s) ≡ filler_word v s
  present_word_intro S s l e =
      let hit : filling S (filler_word v s) s ≡ true = rw (e, eq-eqb (filler_word v s) (filler_word v s) refl) in
      let found : any_below (filling S (filler_word v s)) (types v) ≡ true = any_intro (filling S (filler_word v s))
      (types v) s l hit in
      rw found

  pub joins_intro : (S : List Bool) (x j : ℕ) → x < 2 ^ width v → Fills v S x j → bit (joins v S x) j ≡ true
  joins_intro S x j h o =
      zeta_intro (present_word v S) (width v) x (filler_word v o.by) j (filler_word_under o.by x h o.inside)
      (ap (λ (y : ℕ). bit y j) (present_word_intro S o.by o.below o.member) ∙ o.holds)

  present_word_elim : (S : List Bool) (x y j : ℕ) → Inside y x → bit (present_word v S y) j ≡ true → Fills v S x j
  present_word_elim S x y j i e = at (any_below (filling S y) (types v)) refl e
    where
      at : (b : Bool) → any_below (filling S y) (types v) ≡ b → bit (cond b y 0) j ≡ true → Fills v S x j
      at true q h =
          let f = any_elim (filling S y) (types v) q in
          let same = eqb-true (filler_word v f.0) y (both_right (has S f.0) (eqb (filler_word v f.0) y) f.2) in
          record {
            by = f.0;
            below = f.1;
            member = both_left (has S f.0) (eqb (filler_word v f.0) y) f.2;
            inside = subst (λ (z : ℕ). Inside z x) (sym same) i;
            holds = ap (λ (z : ℕ). bit z j) same ∙ h;
          }
      at false q h = let none = bit-zero j in absurd (clash (cc))

  pub joins_elim : (S : List Bool) (x j : ℕ) → bit (joins v S x) j ≡ true → Fills v S x j
  joins_elim S x j e =
      let o = zeta_elim (present_word v S) (width v) x j e in
      present_word_elim S x o.0 j o.1.inside o.2

  pub joins-small : (S : List Bool) (x : ℕ) → x < 2 ^ width v → joins v S x < 2 ^ width v
  joins-small S x h = zeta-small (present_word v S) (width v) (width v) x (λ y l. at (any_below (filling S y) (types v)) y l)
    where
      at : (b : Bool) (y : ℕ) → y ≤ x → cond b y 0 < 2 ^ width v
      at true y l = omega arith
      at false y l = omega arith
