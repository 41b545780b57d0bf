-- What a set of types shows: the first at which the terms differ, and the bitmap.
--   found_least                                   the first number that passes a test, as a search finds it
--   alive_first, alive_bitmap                     what a table that holds the survivors shows of them
--   verdict-same, byte_none                       the verdict and an empty byte as the code makes them
--   zeros_over                                    zeros after a table, where it would have zeros itself
-- Assumes nothing.
use Prim.Native.Nat.{ℕ, zero, suc, ◌+◌, ◌*◌, ◌≤◌, ◌<◌}
use native.Mathlib.Omega.{arith}
use borrow.Author.Tests.{lt-ltb, le-ltb}
use borrow.Rule.Slice.PartMut.{put_mid}
use mathlib.Core.Path.{◌≡◌, refl, ap, ap₂}
use mathlib.Core.Bool.{Bool, true, false, ◌&&◌}
use mathlib.Core.List.{List, [], ◌∷◌, ◌++◌}
use lib.ListN.{length, get_or, drop, replicate}
use Rattle.std.specs.Prelude.{Option, Some, None}
use Rattle.std.specs.Option.{MatchOption}
use Rattle.records.specs.Finite.{least, table, has, number}
use Rattle.records.proofs.Laws.Bits.{number_cong}
use Rattle.types.specs.Types.{types}
use Rattle.types.specs.Survivors.{survivors}
use Rattle.types.specs.Comparison.{distinguishes, first_distinguishing, below, verdict_with, verdict, counts, bitmap_bytes}
use Rattle.types.specs.Bitmap.{byte_of, bitmap}
use Rattle.types.specs.declared.answers.Counts.{Counts}
use Rattle.types.specs.Code.Words.{SameSet}
use Rattle.types.specs.Code.Settling.{Differs}
use Rattle.records.proofs.Laws.Below.{least-is, least_end, least_cong}
use Rattle.records.proofs.Laws.Sets.{table_cong}
use Rattle.records.proofs.Laws.Filling.{table_over}

-- The first number below a bound that passes a test, where a search found it or found none.
pub found_least : (test : ℕ → Bool) (n : ℕ) (r : Option ℕ)
    → MatchOption r ((k : ℕ) → 0 ≤ k → k < n → test k ≡ false)
    (λ i. (0 ≤ i) × (i < n) × (test i ≡ true) × ((k : ℕ) → 0 ≤ k → k < i → test k ≡ false))
    → r ≡ below (least test n) n
found_least test n None none =
    rw (least_end n test (λ k l. none k (omega arith) l), le-ltb n n (omega arith))
found_least test n (Some i) f =
    rw (least-is n test i f.1 f.2 (λ k l. f.3 k (omega arith) l), lt-ltb i n f.1)

module _ (v : List ℕ) (alive : List Bool) (same : SameSet alive (survivors v)) where
  pub alive_first : (a b : ℕ) (differs : List Bool) → Differs v a b differs
      → least (λ t. has alive t && get_or differs t false) (types v) ≡ first_distinguishing v a b
  alive_first a b differs d =
      least_cong (types v) (λ t. has alive t && get_or differs t false) (distinguishes v a b)
      (λ t l. ap₂ (λ (x y : Bool). x && y) (same t) (d t l))

  pub alive_bitmap : table bitmap_bytes (byte_of alive) ≡ bitmap v
  unfolding bitmap
  alive_bitmap =
      table_cong bitmap_bytes (byte_of alive) (byte_of (survivors v))
      (λ n l. number_cong 8 (λ j. has alive (8 * n + j)) (λ j. has (survivors v) (8 * n + j)) (λ j k. same (8 * n + j)))

-- The verdict from its parts.
pub verdict-same : (v : List ℕ) (a b : ℕ) (first : Option ℕ) (n : Counts)
    → first ≡ below (first_distinguishing v a b) (types v) → n ≡ counts v → verdict_with first n ≡ verdict v a b
unfolding verdict
verdict-same v a b first n e f = rw (e, f)

-- A byte with no bit.
pub byte_none : (S : List Bool) (n : ℕ) → ((t : ℕ) → 8 * n ≤ t → has S t ≡ false) → byte_of S n ≡ 0
unfolding number
byte_none S n none = number_cong 8 (λ j. has S (8 * n + j)) (λ j. false) (λ j h. none (8 * n + j) (omega arith))

none-table : (n : ℕ) (f : ℕ → ℕ) → ((i : ℕ) → f i ≡ 0) → replicate n 0 ≡ table n f
unfolding table
none-table zero f none = refl
none-table (suc n) f none = rw (none 0) (ap (λ (l : List ℕ). 0 ∷ l) (none-table n (λ i. f (suc i)) (λ i. none (suc i))))

-- Zeros over a part of a list that follows a table, where the table would have zeros itself.
pub zeros_over : (f : ℕ → ℕ) (l : List ℕ) (start n : ℕ) → ((i : ℕ) → start ≤ i → f i ≡ 0) → start ≤ length l
    → put_mid start n (table_over f start l) (replicate n 0) ≡ table_over f (start + n) l
unfolding table
zeros_over f l zero n none h =
    let e : 0 + n ≡ n = omega arith in
    rw e (ap (λ (z : List ℕ). z ++ drop n l) (none-table n f (λ i. none i (omega arith))))
zeros_over f [] (suc start) n none h = absurd (omega arith)
zeros_over f (x ∷ l) (suc start) n none h =
    let e : suc start + n ≡ suc (start + n) = omega arith in
    rw e (ap (λ (z : List ℕ). f 0 ∷ z)
    (zeros_over (λ i. f (suc i)) l start n (λ i k. none (suc i) (omega arith)) (omega arith)))
