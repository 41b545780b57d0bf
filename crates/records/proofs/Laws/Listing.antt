-- The numbers that pass a test, listed in rising order, one turn after the other.
--   entries_none, entries-length, entry_kept, entry_last   numbers that pass, one further
--   entries-few                                            how many there can be
--   entry-sound, entry_found                               the entries are those that pass
--   entry_rises                                            they rise
--   entry-number, entry_at                                 an entry's number is how many there are before it
--   total_turn, fill_entry-kept, fill_entry_more           a table of what each entry is to hold
--   entries-members                                        as many as a set has members
--   ListedBelow, list-start, list_more, list_same          a list of the numbers that pass: none; one more; none here
--   listed-few, listed-sound, listed-finds, listed_rises   what it has
-- Assumes nothing.
use Prim.Native.Nat.{ℕ, zero, suc, ◌+◌, ◌≤◌, ◌<◌}
use native.Mathlib.Omega.{arith}
use native.Mathlib.Decide.{ℕ_discrete, dec_lt}
use native.Mathlib.Numerals.{add-one}
use mathlib.Core.Path.{◌≡◌, refl, sym, ap, ◌∙◌}
use mathlib.Core.Bool.{Bool, true, false}
use mathlib.Core.List.{List, [], ◌∷◌}
use mathlib.Core.Logic.{◌⊎◌, inl, inr}
use lib.ListN.{length, get_or, set, length-append, get_or-append}
use lib.Seq.{get_or-append_seam}
use Rattle.records.specs.Finite.{digit, has, members, append_if, list_below}
use Rattle.records.proofs.Laws.Bits.{digit-small}
use Rattle.records.proofs.Laws.Tests.{clash}
use Rattle.records.proofs.Laws.Sets.{members-none}
use Rattle.records.proofs.Laws.Filling.{Ends, Filled, fill_start, fill_turn, fill_same}

-- How many numbers below n pass a test; the m-th of them.
abbrev pub entries : (ℕ → Bool) → ℕ → ℕ
entries test n = length (list_below test n)

abbrev pub entry : (ℕ → Bool) → ℕ → ℕ → ℕ
entry test n m = get_or (list_below test n) m 0

-- Number i is below n and passes; it is an entry.
pub record Entered (test : ℕ → Bool) (n i : ℕ) : Type 0 where
  pub before : i < n
  pub passes : test i ≡ true

abbrev pub Placed : (ℕ → Bool) → ℕ → ℕ → Type 0
Placed test n i = (m : ℕ) × (m < entries test n) × (entry test n m ≡ i)

append-length : (b : Bool) (l : List ℕ) (n : ℕ) → length (append_if b l n) ≡ length l + digit b
append-length true l n = length-append l (n ∷ [])
append-length false l n = omega arith

append-kept : (b : Bool) (l : List ℕ) (n m : ℕ) → m < length l → get_or (append_if b l n) m 0 ≡ get_or l m 0
append-kept true l n m h = get_or-append l (n ∷ []) 0 m h
append-kept false l n m h = refl

append_last : (b : Bool) (l : List ℕ) (n : ℕ) → b ≡ true → get_or (append_if b l n) (length l) 0 ≡ n
append_last true l n e = get_or-append_seam l n [] 0
append_last false l n e = absurd (clash (cc))

module _ (test : ℕ → Bool) where
  pub entries_none : entries test 0 ≡ 0
  unfolding list_below
  entries_none = refl

  pub entries-length : (n : ℕ) → entries test (suc n) ≡ entries test n + digit (test n)
  unfolding list_below
  entries-length n = append-length (test n) (list_below test n) n

  pub entries-few : (n : ℕ) → entries test n ≤ n
  entries-few zero = omega (arith, entries_none)
  entries-few (suc n) = omega (arith, entries-length n, digit-small (test n), entries-few n)

  pub entry_kept : (n m : ℕ) → m < entries test n → entry test (suc n) m ≡ entry test n m
  unfolding list_below
  entry_kept n m h = append-kept (test n) (list_below test n) n m h

  pub entry_last : (n : ℕ) → test n ≡ true → entry test (suc n) (entries test n) ≡ n
  unfolding list_below
  entry_last n e = append_last (test n) (list_below test n) n e

  -- an entry one number further is an earlier one, or the number
  abbrev Earlier : ℕ → ℕ → Type 0
  Earlier n m = (m < entries test n) ⊎ ((entries test n ≡ m) × (test n ≡ true))

  earlier : (n m : ℕ) → m < entries test (suc n) → Earlier n m
  earlier n m h = at (test n) refl (entries-length n) (dec_lt m (entries test n))
    where
      at : (b : Bool) → test n ≡ b → entries test (suc n) ≡ entries test n + digit b
          → Dec (m < entries test n) → Earlier n m
      at b q l (yes k) = inl k
      at true q l (no k) = inr (omega arith, q)
      at false q l (no k) = absurd (omega arith)

  newest : (n m : ℕ) → entries test n ≡ m → test n ≡ true → entry test (suc n) m ≡ n
  newest n m e q = ap (entry test (suc n)) (sym e) ∙ entry_last n q

  pub entry-sound : (n m : ℕ) → m < entries test n → Entered test n (entry test n m)
  entry-sound zero m h = absurd (omega (arith, entries_none))
  entry-sound (suc n) m h = at (earlier n m h) (entry-sound n m)
    where
      at : Earlier n m → (m < entries test n → Entered test n (entry test n m)) → Entered test (suc n) (entry test (suc n) m)
      at (inl k) r =
          let old = r k in
          rw (entry_kept n m k) record { before = omega (arith, old.before); passes = old.passes }
      at (inr e) r = rw (newest n m e.0 e.1) record { before = omega arith; passes = e.1 }

  pub entry_found : (n i : ℕ) → i < n → test i ≡ true → Placed test n i
  entry_found zero i h e = absurd (omega arith)
  entry_found (suc n) i h e = at (ℕ_discrete n i) (entry_found n i)
    where
      more : entries test (suc n) ≡ entries test n + digit (test n)
      more = entries-length n

      at : Dec (n ≡ i) → (i < n → test i ≡ true → Placed test n i) → Placed test (suc n) i
      at (yes q) r =
          let last : test n ≡ true = ap test q ∙ e in
          (entries test n, omega (arith, more, ap digit last), entry_last n last ∙ q)
      at (no q) r =
          let old = r (omega arith) e in
          (old.0, omega (arith, more, old.1), entry_kept n old.0 old.1 ∙ old.2)

  pub entry_rises : (n l m : ℕ) → l < m → m < entries test n → entry test n l < entry test n m
  entry_rises zero l m h k = absurd (omega (arith, entries_none))
  entry_rises (suc n) l m h k = at (earlier n m k) (entry_rises n l m h)
    where
      at : Earlier n m → (m < entries test n → entry test n l < entry test n m)
          → entry test (suc n) l < entry test (suc n) m
      at (inl j) r = rw (entry_kept n l (omega arith), entry_kept n m j) (r j)
      at (inr e) r =
          let old : l < entries test n = omega (arith, e.0) in
          rw (entry_kept n l old, newest n m e.0 e.1) (entry-sound n l old).before

  -- an entry's number is how many there are before it
  pub entry-number : (n m : ℕ) → m < entries test n → entries test (entry test n m) ≡ m
  entry-number zero m h = absurd (omega (arith, entries_none))
  entry-number (suc n) m h = at (earlier n m h) (entry-number n m)
    where
      at : Earlier n m → (m < entries test n → entries test (entry test n m) ≡ m) → entries test (entry test (suc n) m) ≡ m
      at (inl k) r = ap (entries test) (entry_kept n m k) ∙ r k
      at (inr e) r = ap (entries test) (newest n m e.0 e.1) ∙ e.0

  pub entry_at : (n i : ℕ) → i < n → test i ≡ true → entry test n (entries test i) ≡ i
  entry_at n i h e =
      let f = entry_found n i h e in
      ap (entry test n) (ap (entries test) (sym f.2) ∙ entry-number n f.0 f.1) ∙ f.2

  -- One number further: of the entries below i there are n, and a table has what each is to hold.
  module _ (n i : ℕ) (total : n ≡ entries test i) where
    pub total_turn : (b : Bool) → test i ≡ b → n + digit b ≡ entries test (i + 1)
    total_turn b e = rw (add-one i) (omega (arith, entries-length i, ap digit e))

    module _ {A : Type 0} (d : A) (room : ℕ) (ask : ℕ → A) (l : List A) (f : Filled d room l (λ m. ask (entry test i m)) n) where
      pub fill_entry-kept : Filled d room l (λ m. ask (entry test (i + 1) m)) n
      fill_entry-kept =
          rw (add-one i) (fill_same d room l (λ m. ask (entry test i m)) n f (λ m. ask (entry test (suc i) m))
          (λ m k. ap ask (sym (entry_kept i m (omega arith)))))

      pub fill_entry_more : (x : A) → n < room → test i ≡ true → x ≡ ask i
          → Filled d room (set l n x) (λ m. ask (entry test (i + 1) m)) (n + 1)
      fill_entry_more x free e q =
          fill_turn d room l (λ m. ask (entry test (i + 1) m)) n x free fill_entry-kept
          (q ∙ ap ask (sym (rw (add-one i) (newest i n (sym total) e))))

-- the entries, counted from the front
entries_front : (test : ℕ → Bool) (n : ℕ) → entries test (suc n) ≡ digit (test 0) + entries (λ i. test (suc i)) n
entries_front test zero =
    omega (arith, entries-length test 0, entries_none test, entries_none (λ i. test (suc i)))
entries_front test (suc n) =
    omega (arith, entries-length test (suc n), entries_front test n, entries-length (λ i. test (suc i)) n)

-- In a set that has none from n on, there are as many entries below n as members.
pub entries-members : (n : ℕ) (S : List Bool) → Ends S n → entries (has S) n ≡ members S
unfolding members
entries-members zero S ends = entries_none (has S) ∙ sym (members-none S (λ t. ends t (omega arith)))
entries-members (suc n) [] ends = omega (arith, entries-length (has []) n, entries-members n [] (λ t h. refl))
entries-members (suc n) (b ∷ S) ends =
    entries_front (has (b ∷ S)) n
    ∙ ap (λ (x : ℕ). digit b + x) (entries-members n S (λ t h. ends (suc t) (omega arith)))

-- The numbers below t that pass a test, listed in a table.
pub record ListedBelow (test : ℕ → Bool) (room : ℕ) (list : List ℕ) (left t : ℕ) : Type 0 where
  pub total : left ≡ entries test t
  pub filled : Filled 0 room list (entry test t) left

module _ (test : ℕ → Bool) (room : ℕ) (list : List ℕ) where
  pub list-start : length list ≡ room → ListedBelow test room list 0 0
  list-start e = record { total = sym (entries_none test); filled = fill_start 0 room list (entry test 0) e }

  module _ (left t : ℕ) (l : ListedBelow test room list left t) where
    pub list_more : left < room → test t ≡ true → ListedBelow test room (set list left t) (left + 1) (t + 1)
    list_more h e =
        record {
          total = total_turn test left t l.total true e;
          filled = fill_entry_more test left t l.total 0 room (λ i. i) list l.filled t h e refl;
        }

    pub list_same : test t ≡ false → ListedBelow test room list left (t + 1)
    list_same e =
        record {
          total = omega (arith, total_turn test left t l.total false e);
          filled = fill_entry-kept test left t l.total 0 room (λ i. i) list l.filled;
        }

    pub listed-few : left ≤ t
    listed-few = omega (arith, l.total, entries-few test t)

    listed_in : (j : ℕ) → j < left → j < entries test t
    listed_in j h = omega (arith, l.total)

    pub listed-sound : (j : ℕ) → j < left → Entered test t (get_or list j 0)
    listed-sound j h = rw (l.filled.right j h) (entry-sound test t j (listed_in j h))

    pub listed-finds : (u : ℕ) → u < t → test u ≡ true → (j : ℕ) × (j < left) × (get_or list j 0 ≡ u)
    listed-finds u h e =
        let f = entry_found test t u h e in
        let k : f.0 < left = omega (arith, l.total, f.1) in
        (f.0, k, l.filled.right f.0 k ∙ f.2)

    pub listed_rises : (i j : ℕ) → i < j → j < left → get_or list i 0 < get_or list j 0
    listed_rises i j h k =
        rw (l.filled.right i (omega arith), l.filled.right j k) (entry_rises test t i j h (listed_in j k))
