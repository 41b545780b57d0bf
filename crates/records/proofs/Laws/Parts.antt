-- Lists of which a part was replaced, and records by their bytes.
--   put-length, put-before, put-inside, put_behind   a list with others in the place of some of its entries
--   put-take, put-drop                               its front, and what lies behind them
--   pair_off, pair_word                              a list with a number's two bytes in the place of some
--   word_bytes_lem                                       a number is read from its bytes
--   fields_at, record_bytes_lem                           a record's fields, by the bytes of the vocabulary
--   record_behind                                    a record is read from its bytes, behind others
--   record_same, record_take, record_front           a record goes by its bytes, so it is read from a front that has it
--   ButHeld, held_same, held-put, held-read          a vocabulary with another next in its header
--   put_front                                        a part of a list's front, replaced
-- Assumes nothing.
use Prim.Native.Nat.{ℕ, ◌+◌, ◌*◌, ◌-◌, ◌/◌, ◌%◌, ◌≤◌, ◌<◌}
use native.Mathlib.Omega.{arith}
use native.Mathlib.Decide.{dec_lt}
use mathlib.Core.Path.{◌≡◌, refl, sym, ap, ◌∙◌}
use mathlib.Core.List.{List, ◌++◌, append_assoc}
use mathlib.Core.Logic.{◌⊎◌, inl, inr}
use lib.ListN.{length, get_or, take, drop, length-append, length-drop, get_or-append}
use lib.Seq.{length-take-le, get_or-take, get_or-drop, get_or-append-add, drop_at, drop-drop, take-take, take-add}
use lib.Seq.{take-append-add}
use lib.Seq.{drop-append-add, take-append-le, drop-append-le}
use Rattle.records.specs.Finite.{put}
use Rattle.records.specs.Format.{record_size, place_of_next, word_at, word_bytes, record_of, part_at, record_at, record_bytes}
use Rattle.records.specs.declared.fields.Record.{Record}

module _ {A : Type 0} (l : List A) (at : ℕ) (others : List A) (fits : at + length others ≤ length l) where
  front : length (take at l) ≡ at
  front = length-take-le at l (omega arith)

  pub put-length : length (put l at others) ≡ length l
  put-length =
      length-append (take at l) (others ++ drop (at + length others) l)
      ∙ omega (arith, front, length-append others (drop (at + length others) l), length-drop (at + length others) l)

  pub put-before : (d : A) (i : ℕ) → i < at → get_or (put l at others) i d ≡ get_or l i d
  put-before d i h =
      get_or-append (take at l) (others ++ drop (at + length others) l) d i (omega (arith, front)) ∙ get_or-take at l i d h

  -- past the front
  past : (d : A) (k : ℕ) → get_or (put l at others) (at + k) d ≡ get_or (others ++ drop (at + length others) l) k d
  past d k =
      ap (λ (n : ℕ). get_or (put l at others) (n + k) d) (sym front)
      ∙ get_or-append-add (take at l) (others ++ drop (at + length others) l) k d

  pub put-inside : (d : A) (k : ℕ) → k < length others → get_or (put l at others) (at + k) d ≡ get_or others k d
  put-inside d k h = past d k ∙ get_or-append others (drop (at + length others) l) d k h

  pub put_behind : (d : A) (i : ℕ) → at + length others ≤ i → get_or (put l at others) i d ≡ get_or l i d
  put_behind d i h =
      let k = i - (at + length others) in
      let here : i ≡ at + (length others + k) = omega arith in
      let there : at + length others + k ≡ i = omega arith in
      ap (λ (n : ℕ). get_or (put l at others) n d) here
      ∙ past d (length others + k)
      ∙ get_or-append-add others (drop (at + length others) l) k d
      ∙ get_or-drop (at + length others) l k d
      ∙ ap (λ (n : ℕ). get_or l n d) there

  pub put-drop : (n : ℕ) → at + length others ≤ n → drop n (put l at others) ≡ drop n l
  put-drop n h =
      let past = at + length others in
      let m = n - past in
      let here : n ≡ length (take at l) + (length others + m) = omega (arith, front) in
      let there : past + m ≡ n = omega arith in
      ap (λ (k : ℕ). drop k (put l at others)) here
      ∙ drop-append-add (take at l) (others ++ drop past l) (length others + m)
      ∙ drop-append-add others (drop past l) m
      ∙ drop-drop m past l
      ∙ ap (λ (k : ℕ). drop k l) there

  pub put-take : (n : ℕ) → at + length others ≤ n → n ≤ length l → take n (put l at others) ≡ put (take n l) at others
  put-take n h k =
      let past = at + length others in
      let m = n - past in
      let here : n ≡ length (take at l) + (length others + m) = omega (arith, front) in
      let there : n ≡ past + m = omega arith in
      let behind : drop past (take n l) ≡ take m (drop past l)
      = ap (λ (i : ℕ). drop past (take i l)) there
      ∙ ap (drop past) (take-add past m l)
      ∙ drop_at (take past l) (take m (drop past l)) past (length-take-le past l (omega arith)) in
      ap (λ (i : ℕ). take i (put l at others)) here
      ∙ take-append-add (take at l) (others ++ drop past l) (length others + m)
      ∙ rw (take-append-add others (drop past l) m, take-take at n l (omega arith), behind)

pub word_bytes_lem : (x : ℕ) → x % 256 + 256 * (x / 256) ≡ x
word_bytes_lem x = omega arith

-- A number's two bytes in the place of some.
module _ (l : List ℕ) (at x : ℕ) (fits : at + 2 ≤ length l) where
  pub pair_off : (i : ℕ) → (i ≡ at → ⊥) → (i ≡ at + 1 → ⊥) → get_or (put l at (word_bytes x)) i 0 ≡ get_or l i 0
  pair_off i n m = of (dec_lt i at)
    where
      of : Dec (i < at) → get_or (put l at (word_bytes x)) i 0 ≡ get_or l i 0
      of (yes h) = put-before l at (word_bytes x) fits 0 i h
      of (no h) = put_behind l at (word_bytes x) fits 0 i (omega arith)

  pub pair_word : word_at (put l at (word_bytes x)) at ≡ x
  pair_word =
      let first : at + 0 ≡ at = omega arith in
      let low = put-inside l at (word_bytes x) fits 0 0 (omega arith) in
      rw (rw first at low, put-inside l at (word_bytes x) fits 0 1 (omega arith))
      (word_bytes_lem x)

-- The fields that the bytes from `at` on hold.
abbrev pub fields_at : List ℕ → ℕ → Record
fields_at v at =
    record {
      kind = get_or v at 0;
      second = get_or v (at + 1) 0;
      a = word_at v (at + 2);
      b = word_at v (at + 4);
      next = word_at v (at + 6);
    }

pub record_bytes_lem : (v : List ℕ) (i : ℕ) → record_at v i ≡ fields_at v (record_size * i)
unfolding record_at
record_bytes_lem v i =
    let byte : (k n : ℕ) → k < record_size → n ≡ record_size * i + k → get_or (part_at v i) k 0 ≡ get_or v n 0
    = λ k n h e.
    get_or-take record_size (drop (record_size * i) v) k 0 h
    ∙ get_or-drop (record_size * i) v k 0
    ∙ ap (λ (m : ℕ). get_or v m 0) (sym e) in
    rw (
      byte 0 (record_size * i) (omega arith) (omega arith),
      byte 1 (record_size * i + 1) (omega arith) (omega arith),
      byte 2 (record_size * i + 2) (omega arith) (omega arith),
      byte 3 (record_size * i + 2 + 1) (omega arith) (omega arith),
      byte 4 (record_size * i + 4) (omega arith) (omega arith),
      byte 5 (record_size * i + 4 + 1) (omega arith) (omega arith),
      byte 6 (record_size * i + 6) (omega arith) (omega arith),
      byte 7 (record_size * i + 6 + 1) (omega arith) (omega arith),
    )

record_written : (r : Record) → record_of (record_bytes r) ≡ r
record_written r = rw (word_bytes_lem r.a, word_bytes_lem r.b, word_bytes_lem r.next)

pub record_behind : (l : List ℕ) (i : ℕ) (r : Record) → length l ≡ record_size * i → record_at (l ++ record_bytes r) i ≡ r
unfolding record_at
record_behind l i r e =
    ap (λ (m : List ℕ). record_of (take record_size m)) (drop_at l (record_bytes r) (record_size * i) e) ∙ record_written r

-- A record goes by its bytes.
pub record_same : (v w : List ℕ) (i : ℕ)
    → ((n : ℕ) → record_size * i ≤ n → n < record_size * i + record_size → get_or v n 0 ≡ get_or w n 0)
    → record_at v i ≡ record_at w i
record_same v w i same =
    let at = record_size * i in
    rw (record_bytes_lem v i, record_bytes_lem w i)
    (rw (
      same at (omega arith) (omega arith),
      same (at + 1) (omega arith) (omega arith),
      same (at + 2) (omega arith) (omega arith),
      same (at + 2 + 1) (omega arith) (omega arith),
      same (at + 4) (omega arith) (omega arith),
      same (at + 4 + 1) (omega arith) (omega arith),
      same (at + 6) (omega arith) (omega arith),
      same (at + 6 + 1) (omega arith) (omega arith),
    ))

pub record_take : (l : List ℕ) (n i : ℕ) → record_size * i + record_size ≤ n → record_at (take n l) i ≡ record_at l i
record_take l n i fits = record_same (take n l) l i (λ m p h. get_or-take n l m 0 (omega arith))

pub record_front : (l r : List ℕ) (i : ℕ) → record_size * i + record_size ≤ length l → record_at (l ++ r) i ≡ record_at l i
record_front l r i fits = record_same (l ++ r) l i (λ m p h. get_or-append l r 0 m (omega arith))

-- u is w but for the header's next.
pub record ButHeld (u w : List ℕ) : Type 0 where
  pub size : length u ≡ length w
  pub later : (j : ℕ) → 0 < j → record_at u j ≡ record_at w j
  pub kind : (record_at u 0).kind ≡ (record_at w 0).kind
  pub second : (record_at u 0).second ≡ (record_at w 0).second
  pub a : (record_at u 0).a ≡ (record_at w 0).a
  pub b : (record_at u 0).b ≡ (record_at w 0).b

pub held_same : (w : List ℕ) → ButHeld w w
held_same w = record { size = refl; later = λ j p. refl; kind = refl; second = refl; a = refl; b = refl }

module _ (w : List ℕ) (k : ℕ) (fits : record_size ≤ length w) where
  abbrev holding : List ℕ
  holding = put w place_of_next (word_bytes k)

  byte : (i : ℕ) → (i < place_of_next) ⊎ (record_size ≤ i) → get_or holding i 0 ≡ get_or w i 0
  byte i (inl h) = pair_off w place_of_next k (omega arith) i (λ e. omega arith) (λ e. omega arith)
  byte i (inr h) = pair_off w place_of_next k (omega arith) i (λ e. omega arith) (λ e. omega arith)

  header : (v : List ℕ) → record_at v 0 ≡ fields_at v 0
  header v = record_bytes_lem v 0

  pub held-put : ButHeld holding w
  held-put =
      record {
        size = put-length w place_of_next (word_bytes k) (omega arith);
        later = λ j p. record_same holding w j (λ n l h. byte n (inr (omega arith)));
        kind = rw (header holding, header w) (byte 0 (inl (omega arith)));
        second = rw (header holding, header w) (byte 1 (inl (omega arith)));
        a = rw (header holding, header w, byte 2 (inl (omega arith)), byte 3 (inl (omega arith)));
        b = rw (header holding, header w, byte 4 (inl (omega arith)), byte 5 (inl (omega arith)));
      }

  pub held-read : (record_at holding 0).next ≡ k
  held-read = ap (λ (r : Record). r.next) (header holding) ∙ pair_word w place_of_next k (omega arith)

-- What replaces a part of a front leaves what lies behind it.
pub put_front : {A : Type 0} (l r : List A) (at : ℕ) (others : List A) → at + length others ≤ length l
    → put (l ++ r) at others ≡ put l at others ++ r
put_front {A = A} l r at others fits =
    let rest = drop (at + length others) l in
    rw (take-append-le at l r (omega arith), drop-append-le (at + length others) l r fits)
    (sym (append_assoc (take at l) (others ++ rest) r ∙ ap (λ (m : List A). take at l ++ m) (append_assoc others rest r)))
