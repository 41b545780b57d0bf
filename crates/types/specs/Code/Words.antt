-- The words by which the code tests `served`, and the table it keeps of them. No promise of a call speaks of
-- them: proofs/Refinement/Served.antt shows that the test is the paper's.
use Rattle.std.specs.Prelude.{ℕ, zero, suc, ◌-◌, ◌^◌, ◌<◌, ◌≡◌, Bool, true, false, cond, not, ◌&&◌, List, length, get_or, eqb}
use Rattle.std.specs.Int.Bits.{bit_or}
use Rattle.records.specs.Finite.{list_below, any_below, has, bit, number}
use Rattle.records.specs.Format.{record_at, count}
use Rattle.types.specs.Types.{types, truth}
use Rattle.records.specs.Kinds.{is_restriction}

-- The restrictions in record order; how many; the m-th of them.
abbrev pub restrictions : List ℕ → List ℕ
restrictions v = list_below (λ i. is_restriction (record_at v i).kind) (count v)

abbrev pub width : List ℕ → ℕ
width v = length (restrictions v)

abbrev pub restriction : List ℕ → ℕ → ℕ
restriction v m = get_or (restrictions v) m 0

-- A truth, negated for kind 8: then both kinds read alike.
abbrev pub signed : Bool → Bool → Bool
signed true x = not x
signed false x = x

abbrev pub negated : List ℕ → ℕ → Bool
negated v i = eqb (record_at v i).kind 8

-- Bit m: whether restriction m holds at t, so that t needs a witness; whether its filler holds at s, so that s may be one;
-- whether the restriction is of another role. Kind 8 is negated.
unfoldable pub restriction_word : List ℕ → ℕ → ℕ
restriction_word v t = number (width v) (λ m. signed (negated v (restriction v m)) (truth v t (restriction v m)))

unfoldable pub filler_word : List ℕ → ℕ → ℕ
filler_word v s = number (width v) (λ m. signed (negated v (restriction v m)) (truth v s (record_at v (restriction v m)).b))

unfoldable pub other_role_word : List ℕ → ℕ → ℕ
other_role_word v r = number (width v) (λ m. not (eqb (record_at v (restriction v m)).a r))

-- The zeta transform over the bits below n, sums over subsets with the bitwise or for sum: the or of the entries at the words
-- within x that differ from it below n only.
unfoldable pub zeta : (ℕ → ℕ) → ℕ → ℕ → ℕ
zeta f zero x = f x
zeta f (suc n) x = cond (bit x n) (bit_or (zeta f n x) (zeta f n (x - 2 ^ n))) (zeta f n x)

-- x itself where it is the word of the fillers at a type of the set, else 0.
abbrev pub present_word : List ℕ → List Bool → ℕ → ℕ
present_word v S x = cond (any_below (λ s. has S s && eqb (filler_word v s) x) (types v)) x 0

-- The join, by bitwise or, of all words within x that are present.
abbrev pub joins : List ℕ → List Bool → ℕ → ℕ
joins v S x = zeta (present_word v S) (width v) x

-- The restrictions that hold at t, and all those of other roles than r.
abbrev pub reached : List ℕ → ℕ → ℕ → ℕ
reached v t r = bit_or (restriction_word v t) (other_role_word v r)

-- What t needs by restrictions of role r is met: the join of the words allowed for it has them all.
abbrev pub role_served : List ℕ → List Bool → ℕ → ℕ → Bool
role_served v S t r = eqb (bit_or (joins v S (reached v t r)) (other_role_word v r)) (reached v t r)

-- Tables that hold the two words of each type.
abbrev pub RestrictionWords : List ℕ → List ℕ → Type 0
RestrictionWords v held = (t : ℕ) → t < types v → get_or held t 0 ≡ restriction_word v t

abbrev pub FillerWords : List ℕ → List ℕ → Type 0
FillerWords v filling = (t : ℕ) → t < types v → get_or filling t 0 ≡ filler_word v t

-- Two tables hold the same set.
abbrev pub SameSet : List Bool → List Bool → Type 0
SameSet S R = (t : ℕ) → has S t ≡ has R t
