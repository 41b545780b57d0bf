-- The table of nearest names as the code makes it.
--   any-range         a search over a range
--   OfPair, pair_at   the row and the column of a byte
--   table-right       from words that say which names are broader, the table is the paper's
-- Assumes nothing.
use Prim.Native.Nat.{ℕ, zero, suc, ◌+◌, ◌*◌, ◌/◌, ◌%◌, ◌<◌}
use native.Mathlib.Nat.{mod-lt, div-lt_iff_lt-mul, zero-lt-suc}
use native.Mathlib.Omega.{arith}
use native.Mathlib.Decide.{dec_lt}
use mathlib.Core.Path.{◌≡◌, refl, sym, ap, ap₂, ◌∙◌}
use mathlib.Core.Bool.{Bool, cond, ◌||◌, or-false}
use mathlib.Core.List.{List}
use lib.Dec.{ltb}
use lib.ListN.{get_or}
use borrow.Author.Tests.{lt-ltb, le-ltb}
use Rattle.std.specs.List.{list_any, range_with_len}
use Rattle.std.proofs.Math.Bool.{or_assoc}
use Rattle.records.specs.Finite.{any_below, table, bit}
use Rattle.records.proofs.Laws.Search.{any_cong}
use Rattle.records.proofs.Laws.Sets.{table_cong}
use Rattle.taxonomy.specs.Taxonomy.{name_count, name_at, broader, strictly_broader, between, entry, entry_byte, taxonomy_bytes}
use Rattle.taxonomy.specs.Taxonomy.{taxonomy}
use Rattle.taxonomy.specs.Code.Meets.{Above}
use Rattle.taxonomy.specs.Code.Names.{NamesListed}
use Rattle.taxonomy.specs.Code.Order.{is_above, strictly_above, amid, entry_of, byte_at}
use Rattle.taxonomy.specs.declared.table.Order.{Order}

-- A search over a range, from its front.
any-front : (test : ℕ → Bool) (n : ℕ) → any_below test (suc n) ≡ (test 0 || any_below (λ i. test (suc i)) n)
unfolding any_below
any-front test zero = sym (or-false (test 0))
any-front test (suc n) =
    ap (λ (b : Bool). b || test (suc n)) (any-front test n) ∙ or_assoc (test 0) (any_below (λ i. test (suc i)) n) (test (suc n))

any-from : (test : ℕ → Bool) (a n : ℕ) → list_any test (range_with_len a n) ≡ any_below (λ i. test (a + i)) n
unfolding any_below
any-from test a zero = refl
any-from test a (suc n) =
    ap (λ (b : Bool). test a || b) (any-from test (a + 1) n)
    ∙ ap₂ (λ (b c : Bool). b || c) (ap test (omega arith))
    (any_cong (λ i. test (a + 1 + i)) (λ i. test (a + suc i)) n (λ i h. ap test (omega arith)))
    ∙ sym (any-front (λ i. test (a + i)) n)

pub any-range : (test : ℕ → Bool) (n : ℕ) → list_any test (range_with_len 0 n) ≡ any_below test n
any-range test n = any-from test 0 n ∙ any_cong (λ i. test (0 + i)) test n (λ i h. ap test (omega arith))

pub record OfPair (n e : ℕ) : Type 0 where
  pub some : 0 < n
  pub row : e / n < n
  pub column : e % n < n

pub pair_at : (n e : ℕ) → e < n * n → OfPair n e
pair_at zero e h = absurd (omega (arith, h))
pair_at (suc n) e h =
    let some = zero-lt-suc n in record { some = some; row = (div-lt_iff_lt-mul some).1 h; column = mod-lt e some }

module _ (v : List ℕ) (order : Order) (listed : NamesListed v order.names) (above : Above v order.meets) where
  abbrev n : ℕ
  n = name_count v

  broader-same : (i j : ℕ) → i < n → j < n → is_above order i j ≡ broader v (name_at v i) (name_at v j)
  broader-same i j h k = ap (λ (q : ℕ). bit (get_or order.meets i 0) q) (listed.atom_at_lem j k) ∙ above i j h k

  strictly_same : (i j : ℕ) → i < n → j < n
      → strictly_above order i j ≡ strictly_broader v (name_at v i) (name_at v j)
  strictly_same i j h k = rw (broader-same i j h k, broader-same j i k h)

  between-same : (i j : ℕ) → i < n → j < n → amid order i j ≡ between v (name_at v i) (name_at v j)
  between-same i j h k = rw listed.all (any_cong _ _ n (λ m l. rw (strictly_same i m h l, strictly_same m j l k)))

  entry-same : (i j : ℕ) → i < n → j < n → entry_of order i j ≡ entry v (name_at v i) (name_at v j)
  unfolding entry
  entry-same i j h k = rw (between-same i j h k, broader-same i j h k, broader-same j i k h)

  byte_same : (e : ℕ) → byte_at order e ≡ entry_byte v e
  byte_same e = ap (λ (m : ℕ). cond (ltb e (m * m)) (entry_of order (e / m) (e % m)) 0) listed.all ∙ at (dec_lt e (n * n))
    where
      at : Dec (e < n * n) → cond (ltb e (n * n)) (entry_of order (e / n) (e % n)) 0 ≡ entry_byte v e
      at (yes h) =
          let p = pair_at n e h in
          rw (lt-ltb e (n * n) h) (entry-same (e / n) (e % n) p.row p.column)
      at (no h) = rw (le-ltb e (n * n) (omega arith))

  pub table-right : table taxonomy_bytes (byte_at order) ≡ taxonomy v
  unfolding taxonomy
  table-right = table_cong taxonomy_bytes (byte_at order) (entry_byte v) (λ e h. byte_same e)
