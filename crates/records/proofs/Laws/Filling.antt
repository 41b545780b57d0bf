-- Tables filled one entry after the other, and words built bit by bit: one turn of a loop, over plain values.
--   set-each                                        what holds of each entry after one was set
--   Filled, fill_start, fill_turn                   a table filled in order
--   RightAt, right_turn, right_kept                 a part of a table filled in order
--   table_over, over-start, over_turn, over-length   a table written over the front of a list
--   zeros                                           a table of nothing but zeros
--   Ends, ends_turn, ends-empty                     a set that has nothing from there on
--   none-marked                                     a table that has no mark
--   all_start, all_turn, all-holds_turn             a test of all, one number further
--   word_start, word_turn, word_end, word_bound     a word built from its top bit
-- Assumes nothing.
use Prim.Native.Nat.{ℕ, zero, suc, ◌+◌, ◌-◌, ◌*◌, ◌^◌, ◌≤◌, ◌<◌}
use native.Mathlib.Omega.{arith}
use native.Mathlib.Decide.{ℕ_discrete}
use native.Mathlib.Numerals.{add-one}
use mathlib.Core.Path.{◌≡◌, refl, sym, ap, ◌∙◌}
use mathlib.Core.Bool.{Bool, true, false, ◌&&◌, and-true}
use mathlib.Core.List.{List, [], ◌∷◌, ◌++◌}
use lib.ListN.{length, get_or, set, drop, replicate, length-set, length-replicate, length-append, length-drop}
use lib.Pow.{pow_mono}
use lib.Seq.{get_or-set_same, get_or-set_other}
use Rattle.records.specs.Finite.{digit, all_below, table, number}
use Rattle.records.proofs.Laws.Bits.{number_step, number_small, number_cong}
use Rattle.records.proofs.Laws.Sets.{length-table}

-- What holds of the new entry at its place, and of every other at its own, holds of each.
pub set-each : {A : Type 0} (P : ℕ → A → Type 0) (l : List A) (i : ℕ) (x d : A) → i < length l → P i x
    → ((j : ℕ) → (j ≡ i → ⊥) → P j (get_or l j d)) → (j : ℕ) → P j (get_or (set l i x) j d)
set-each P l i x d h new old j = at (ℕ_discrete j i)
  where
    at : Dec (j ≡ i) → P j (get_or (set l i x) j d)
    at (yes e) = rw (e, get_or-set_same l i x d h) new
    at (no n) = rw (get_or-set_other l i j x d n) (old j n)

-- The entries below i are right.
abbrev pub Right : {A : Type 0} → A → List A → (ℕ → A) → ℕ → Type 0
Right d l f i = (j : ℕ) → j < i → get_or l j d ≡ f j

-- A table of n entries, right below i.
pub record Filled {A : Type 0} (d : A) (n : ℕ) (l : List A) (f : ℕ → A) (i : ℕ) : Type 0 where
  pub size : length l ≡ n
  pub right : Right d l f i

module _ {A : Type 0} (d : A) (n : ℕ) (l : List A) (f : ℕ → A) where
  pub fill_start : length l ≡ n → Filled d n l f 0
  fill_start e = record { size = e; right = λ j h. absurd (omega arith) }

  pub fill_turn : (i : ℕ) (x : A) → i < n → Filled d n l f i → x ≡ f i → Filled d n (set l i x) f (i + 1)
  fill_turn i x h r e = record { size = length-set l i x ∙ r.size; right = λ j k. at j k (ℕ_discrete j i) }
    where
      at : (j : ℕ) → j < i + 1 → Dec (j ≡ i) → get_or (set l i x) j d ≡ f j
      at j k (yes q) = rw q (get_or-set_same l i x d (omega (arith, r.size)) ∙ e)
      at j k (no q) = get_or-set_other l i j x d q ∙ r.right j (omega arith)

  pub fill_same : (i : ℕ) → Filled d n l f i → (g : ℕ → A) → ((j : ℕ) → j < i → f j ≡ g j) → Filled d n l g i
  fill_same i r g e = record { size = r.size; right = λ j k. r.right j k ∙ e j k }

-- The entries at the places of the numbers below i are right.
abbrev pub RightAt : {A : Type 0} → A → List A → (ℕ → ℕ) → (ℕ → A) → ℕ → Type 0
RightAt d l at f i = (j : ℕ) → j < i → get_or l (at j) d ≡ f j

module _ {A : Type 0} (d : A) (l : List A) (at : ℕ → ℕ) (f : ℕ → A) (i : ℕ) (right : RightAt d l at f i) where
  pub right_turn : (x : A) → at i < length l → ((j : ℕ) → j < i → at j ≡ at i → ⊥) → x ≡ f i
      → RightAt d (set l (at i) x) at f (i + 1)
  right_turn x h other e j k = here (ℕ_discrete j i)
    where
      here : Dec (j ≡ i) → get_or (set l (at i) x) (at j) d ≡ f j
      here (yes q) = rw q (get_or-set_same l (at i) x d h ∙ e)
      here (no q) =
          let below : j < i = omega arith in
          get_or-set_other l (at i) (at j) x d (other j below) ∙ right j below

  pub right_kept : (p : ℕ) (x : A) → ((j : ℕ) → j < i → at j ≡ p → ⊥) → RightAt d (set l p x) at f i
  right_kept p x other j k = get_or-set_other l p (at j) x d (other j k) ∙ right j k

-- A set that has nothing from i on.
abbrev pub Ends : List Bool → ℕ → Type 0
Ends l i = (u : ℕ) → i ≤ u → get_or l u false ≡ false

pub ends_turn : (l : List Bool) (i : ℕ) (x : Bool) → Ends l i → Ends (set l i x) (i + 1)
ends_turn l i x h u k = get_or-set_other l i u x false (λ e. omega arith) ∙ h u (omega arith)

pub ends-empty : (n i : ℕ) → Ends (replicate n false) i
ends-empty zero i u h = refl
ends-empty (suc n) i zero h = refl
ends-empty (suc n) i (suc u) h = ends-empty n 0 u (omega arith)

-- A table of n entries that has no mark.
pub none-marked : (n : ℕ) → (length (replicate {A = Bool} n false) ≡ n) × ((i : ℕ) → get_or (replicate n false) i false ≡ false)
none-marked n = (length-replicate n false, λ i. ends-empty n 0 i (omega arith))

pub all_start : (test : ℕ → Bool) → true ≡ all_below test 0
unfolding all_below
all_start test = refl

module _ (test : ℕ → Bool) (i : ℕ) where
  pub all_turn : (fit b : Bool) → fit ≡ all_below test i → b ≡ test i → (fit && b) ≡ all_below test (i + 1)
  unfolding all_below
  all_turn fit b f e = rw (add-one, f, e)

  pub all-holds_turn : (fit : Bool) → fit ≡ all_below test i → test i ≡ true → fit ≡ all_below test (i + 1)
  all-holds_turn fit f e = sym (and-true fit) ∙ all_turn fit true f (sym e)

module _ (bits : ℕ) (f : ℕ → Bool) where
  -- The bits from m on, as a word.
  abbrev pub word_from : ℕ → ℕ
  word_from m = number (bits - m) (λ i. f (m + i))

  pub word_start : 0 ≡ word_from bits
  unfolding number
  word_start = let none : bits - bits ≡ 0 = omega arith in rw none

  pub word_bound : (limit m w : ℕ) → bits ≤ limit → w ≡ word_from m → w < 2 ^ limit
  word_bound limit m w h e =
      omega (arith, number_small (bits - m) (λ i. f (m + i)), pow_mono {i = bits - m} {j = limit} (omega arith))

  pub word_turn : (m : ℕ) (w : ℕ) (x : Bool) → 0 < m → m ≤ bits → w ≡ word_from m → x ≡ f (m - 1)
      → digit x + 2 * w ≡ word_from (m - 1)
  word_turn m w x p h e q =
      let back : m - 1 + 1 ≡ m = omega arith in
      sym (number_step bits (m - 1) f (omega arith) ∙ rw (back, ← e, ← q))

  pub word_end : (m w : ℕ) → m ≡ 0 → w ≡ word_from m → w ≡ number bits f
  word_end m w none e =
      let all : bits - 0 ≡ bits = omega arith in
      e ∙ rw (none, all) (number_cong bits (λ i. f (0 + i)) f (λ j l. ap f (omega arith)))

-- A table of nothing but zeros.
pub zeros : (n x : ℕ) → get_or {A = ℕ} (replicate n 0) x 0 ≡ 0
zeros zero x = refl
zeros (suc n) zero = refl
zeros (suc n) (suc x) = zeros n x

-- A table of n entries over the front of a list.
abbrev pub table_over : {A : Type 0} → (ℕ → A) → ℕ → List A → List A
table_over f n l = table n f ++ drop n l

module _ {A : Type 0} where
  pub over-start : (f : ℕ → A) (l : List A) → l ≡ table_over f 0 l
  unfolding table
  over-start f l = refl

  pub over-length : (f : ℕ → A) (n : ℕ) (l now : List A) → n ≤ length l → now ≡ table_over f n l → length now ≡ length l
  over-length f n l now h e =
      ap length e ∙ length-append (table n f) (drop n l) ∙ omega (arith, length-table n f, length-drop n l)

  over-next : (f : ℕ → A) (n : ℕ) (l : List A) → n < length l → set (table_over f n l) n (f n) ≡ table_over f (suc n) l
  unfolding table
  over-next f n [] h = absurd (omega arith)
  over-next f zero (x ∷ l) h = refl
  over-next f (suc n) (x ∷ l) h = ap (λ (r : List A). f 0 ∷ r) (over-next (λ i. f (suc i)) n l (omega arith))

  pub over_turn : (f : ℕ → A) (n : ℕ) (l now : List A) (x : A) → n < length l → now ≡ table_over f n l → x ≡ f n
      → set now n x ≡ table_over f (n + 1) l
  over_turn f n l now x h e q = rw (e, q, add-one) (over-next f n l h)
