-- One turn of the loops of the zeta transform of a table of words, over plain values.
--   joined-none, joined-set, joined_twice      entries joined: none; one more; a block more
--   shifted, power                             a power of two, as the code has it
--   words-room                                 the words of so few bits lie in the table
--   zeta-step_end                              one bit, once a loop over its words is past them
--   Paired, pair_start, pair_turn              one bit, block by block
--   pair_room                                  the next block lies in the table
--   Stepped, step_start, step_turn             one bit, word by word
--   step_back, step_less                       the word without the bit lies in the table, and less is left
--   zeta-start, zeta_turn                      all bits
-- Assumes nothing.
use Prim.Native.Nat.{ℕ, suc, ◌+◌, ◌-◌, ◌*◌, ◌/◌, ◌%◌, ◌^◌, ◌≤◌, ◌<◌}
use native.Mathlib.Omega.{arith}
use native.Mathlib.Decide.{ℕ_discrete, dec_lt}
use native.Mathlib.Nat.{add-mul, mul-le-mul_right, lt_of_mul-lt-mul_right}
use native.Mathlib.Numerals.{add-one}
use mathlib.Core.Path.{◌≡◌, refl, sym, ap, ap₂, ◌∙◌}
use mathlib.Core.Bool.{Bool, true, false, ◌&&◌, and-false}
use mathlib.Core.List.{List}
use mathlib.Core.Logic.{◌⊎◌, inl, inr}
use lib.Dec.{leb, ltb, eqb}
use lib.ListN.{length, get_or, set}
use lib.Bits.{bit_or, or_block, or_zero_r, or_shifted}
use lib.Pow.{pow_pos, pow-add, pow_mono, shl_exact, high}
use lib.Seq.{get_or-set_same, get_or-set_other}
use borrow.Author.Tests.{lt-ltb, le-ltb, le-leb, lt-leb}
use Rattle.records.specs.Finite.{bit}
use Rattle.types.specs.Code.Words.{zeta}
use Rattle.types.specs.Code.Elimination.{between, joined_if, Joined, ZetaStep, ZetaTo}

-- y lies between a and e; before a; at e or past it
inside : (a e y : ℕ) → a ≤ y → y < e → between a e y ≡ true
inside a e y h k = rw (le-leb a y h, lt-ltb y e k)

before : (a e y : ℕ) → y < a → between a e y ≡ false
before a e y h = rw (lt-leb a y h)

past : (a e y : ℕ) → e ≤ y → between a e y ≡ false
past a e y h = rw (le-ltb y e h) (and-false (leb a y))

module _ (half : ℕ) (old : List ℕ) where
  joined-none : (test : ℕ → Bool) → ((y : ℕ) → test y ≡ false) → Joined test half old old
  joined-none test none = λ y. rw (none y)

  -- an entry of which nothing was joined yet
  untouched : (test : ℕ → Bool) (l : List ℕ) → Joined test half old l → (y : ℕ) → test y ≡ false → get_or l y 0 ≡ get_or old y 0
  untouched test l s y e = s y ∙ rw e

  joined-set : (f g : ℕ → Bool) (l : List ℕ) (x : ℕ) → x < length l → Joined f half old l
      → f x ≡ false → f (x - half) ≡ false → g x ≡ true → ((y : ℕ) → (y ≡ x → ⊥) → f y ≡ g y)
      → Joined g half old (set l x (bit_or (get_or l x 0) (get_or l (x - half) 0)))
  joined-set f g l x h s here low new other =
      λ y. at y (ℕ_discrete y x)
    where
      entry : ℕ
      entry = bit_or (get_or l x 0) (get_or l (x - half) 0)

      at : (y : ℕ) → Dec (y ≡ x) → get_or (set l x entry) y 0 ≡ joined_if (g y) old half y
      at y (yes q) =
          rw (q, new) (get_or-set_same l x entry 0 h
          ∙ ap₂ bit_or (untouched f l s x here) (untouched f l s (x - half) low))
      at y (no q) = get_or-set_other l x y entry 0 q ∙ s y ∙ ap (λ (b : Bool). joined_if b old half y) (other y q)

  module _ (f g h : ℕ → Bool) (l m : List ℕ) (s : Joined f half old l) (t : Joined g half l m) where
    -- The entry at y is joined by the first tests or by none, or, untouched by them, by the second.
    abbrev Once : ℕ → Type 0
    Once y = ((g y ≡ false) × (f y ≡ h y)) ⊎ ((g y ≡ true) × (f y ≡ false) × (f (y - half) ≡ false) × (h y ≡ true))

    joined_twice : ((y : ℕ) → Once y) → Joined h half old m
    joined_twice once = λ y. at y (once y)
      where
        at : (y : ℕ) → Once y → get_or m y 0 ≡ joined_if (h y) old half y
        at y (inl k) = t y ∙ rw k.0 (s y ∙ ap (λ (b : Bool). joined_if b old half y) k.1)
        at y (inr k) =
            t y ∙ rw (k.0, k.3)
            (ap₂ bit_or (untouched f l s y k.1) (untouched f l s (y - half) k.2))

-- `1 << k`, as the code has it.
abbrev pub shifted : ℕ → ℕ
shifted k = (1 * 2 ^ k) % 2 ^ 64

pub power : (k : ℕ) → k < 64 → shifted k ≡ 2 ^ k
power k h = omega (arith, shl_exact {a = 1} 1 k 64 (omega arith) (omega arith))

pub words-room : (bits most : ℕ) → bits ≤ most → most < 64 → shifted bits ≤ 2 ^ most
words-room bits most few h = omega (arith, power bits (omega arith), pow_mono {i = bits} {j = most} few)

-- y is a word before x that has bit n.
abbrev words_before : ℕ → ℕ → ℕ → Bool
words_before x n y = ltb y x && bit y n

pub zeta-step_end : (old l : List ℕ) (n words x : ℕ) → Joined (words_before x n) (2 ^ n) old l → words ≤ x
    → ZetaStep n words old l
zeta-step_end old l n words x s h =
    λ y k. s y ∙ rw (lt-ltb y x (omega arith))

-- A table whose entries below `at` are joined where they have bit n; `at` ends a block of two halves.
pub record Paired (old : List ℕ) (n : ℕ) (l : List ℕ) (at : ℕ) : Type 0 where
  pub blocks : ℕ
  pub place : at ≡ 2 * blocks * 2 ^ n
  pub joined : Joined (words_before at n) (2 ^ n) old l

-- bit n of a number in the first half of a block, and in the second
first_half : (n q y : ℕ) → 2 * q * 2 ^ n ≤ y → y < 2 * q * 2 ^ n + 2 ^ n → bit y n ≡ false
unfolding bit
first_half n q y h k =
    let e : 2 * q * 2 ^ n + (y - 2 * q * 2 ^ n) ≡ y = omega arith in
    let d : y / 2 ^ n ≡ 2 * q = ap (λ (z : ℕ). z / 2 ^ n) (sym e) ∙ high (2 * q) n (omega arith) in
    let m : y / 2 ^ n % 2 ≡ 0 = omega arith in
    ap (λ (z : ℕ). eqb z 1) m

second_half : (n q y : ℕ) → 2 * q * 2 ^ n + 2 ^ n ≤ y → y < 2 * q * 2 ^ n + 2 * 2 ^ n → bit y n ≡ true
unfolding bit
second_half n q y h k =
    let s : (2 * q + 1) * 2 ^ n ≡ 2 * q * 2 ^ n + 1 * 2 ^ n = add-mul (2 * q) 1 (2 ^ n) in
    let e : (2 * q + 1) * 2 ^ n + (y - (2 * q + 1) * 2 ^ n) ≡ y = omega arith in
    let d : y / 2 ^ n ≡ 2 * q + 1 = ap (λ (z : ℕ). z / 2 ^ n) (sym e) ∙ high (2 * q + 1) n (omega arith) in
    let m : y / 2 ^ n % 2 ≡ 1 = omega arith in
    ap (λ (z : ℕ). eqb z 1) m

module _ (old : List ℕ) (n : ℕ) where
  pub pair_start : Paired old n old 0
  pair_start =
      record {
        blocks = 0;
        place = omega arith;
        joined = joined-none (2 ^ n) old (words_before 0 n) (λ y. rw (le-ltb y 0 (omega arith)));
      }

  module _ (l : List ℕ) (at : ℕ) (s : Paired old n l at) where
    -- the next block has been joined
    paired : (m : List ℕ) → Joined (between (at + 2 ^ n) (at + 2 * 2 ^ n)) (2 ^ n) l m → Paired old n m (at + 2 * 2 ^ n)
    paired m j =
        let b : 2 * (s.blocks + 1) ≡ 2 * s.blocks + 2 = omega arith in
        record {
          blocks = s.blocks + 1;
          place = rw b (omega (arith, s.place, add-mul (2 * s.blocks) 2 (2 ^ n)));
          joined = joined_twice (2 ^ n) old (words_before at n) (between (at + 2 ^ n) end) (words_before end n) l m s.joined j
              (λ y. once y (dec_lt y at) (dec_lt y (at + 2 ^ n)) (dec_lt y end));
        }
      where
        end : ℕ
        end = at + 2 * 2 ^ n

        once : (y : ℕ) → Dec (y < at) → Dec (y < at + 2 ^ n) → Dec (y < at + 2 * 2 ^ n)
            → Once (2 ^ n) old (words_before at n) (between (at + 2 ^ n) end) (words_before end n) l m s.joined j y
        once y (yes p) q r =
            inl (before (at + 2 ^ n) end y (omega arith), rw (lt-ltb y at p, lt-ltb y end (omega arith)))
        once y (no p) (yes q) r =
            let clear = first_half n s.blocks y (omega (arith, s.place)) (omega (arith, s.place)) in
            inl (before (at + 2 ^ n) end y q, rw (clear, and-false (ltb y at), and-false (ltb y end)))
        once y (no p) (no q) (yes r) =
            let there = second_half n s.blocks y (omega (arith, s.place)) (omega (arith, s.place)) in
            inr (
              inside (at + 2 ^ n) end y (omega arith) r,
              rw (le-ltb y at (omega arith)),
              rw (le-ltb (y - 2 ^ n) at (omega arith)),
              rw (lt-ltb y end r, there),
            )
        once y (no p) (no q) (no r) =
            inl (past (at + 2 ^ n) end y (omega arith), rw (le-ltb y at (omega arith), le-ltb y end (omega arith)))

    module _ (most words : ℕ) (few : words ≤ 2 ^ most) (h : n < most) (small : most < 64) where
      pub pair_room : at < words → at + 2 * shifted n ≤ 2 ^ most
      pair_room k =
          let e : most ≡ suc (most - 1 - n) + n = omega arith in
          let p : 2 ^ most ≡ 2 ^ suc (most - 1 - n) * 2 ^ n = ap (λ (z : ℕ). 2 ^ z) e ∙ pow-add 2 (suc (most - 1 - n)) n in
          let below : 2 * s.blocks < 2 ^ suc (most - 1 - n) = lt_of_mul-lt-mul_right (2 ^ n) (omega (arith, s.place)) in
          let next : 2 * s.blocks + 2 ≤ 2 ^ suc (most - 1 - n) = omega arith in
          let two = add-mul (2 * s.blocks) 2 (2 ^ n) in
          omega (arith, s.place, mul-le-mul_right (2 ^ n) next, two, power n (omega arith))

      pub pair_turn : (m : List ℕ) → Joined (between (at + shifted n) (at + 2 * shifted n)) (shifted n) l m
          → Paired old n m (at + 2 * shifted n)
      pair_turn m j = let w = power n (omega arith) in rw w (paired m (rw w at j))

-- A word that has bit n: its place in the second half of a block.
record Word (n x : ℕ) : Type 0 where
  block : ℕ
  rest : ℕ
  place : x ≡ 2 * block * 2 ^ n + 2 ^ n + rest
  inside : rest < 2 ^ n

module _ (n x : ℕ) (w : Word n x) where
  word_bit : bit x n ≡ true
  word_bit = second_half n w.block x (omega (arith, w.place)) (omega (arith, w.place, w.inside))

  without-bit : bit (x - 2 ^ n) n ≡ false
  without-bit = first_half n w.block (x - 2 ^ n) (omega (arith, w.place)) (omega (arith, w.place, w.inside))

  -- z is the next word that has bit n
  record Next (z : ℕ) : Type 0 where
    word : Word n z
    later : x < z
    between-none : (y : ℕ) → x < y → y < z → bit y n ≡ false

  -- the next word, by an or
  next_word : Next (bit_or (x + 1) (2 ^ n))
  next_word = at (dec_lt (w.rest + 1) (2 ^ n))
    where
      q : ℕ
      q = w.block

      joined : (a r : ℕ) → x + 1 ≡ a * 2 ^ n + r → r < 2 ^ n → bit_or (x + 1) (2 ^ n) ≡ bit_or a 1 * 2 ^ n + r
      joined a r e h =
          let p : 2 ^ n ≡ 1 * 2 ^ n + 0 = omega arith in
          ap₂ bit_or e p ∙ or_block n a 1 r 0 h (pow_pos n) ∙ ap (λ (z : ℕ). bit_or a 1 * 2 ^ n + z) (or_zero_r r)

      at : Dec (w.rest + 1 < 2 ^ n) → Next (bit_or (x + 1) (2 ^ n))
      at (yes h) =
          let odd : bit_or (q * 2 + 1) 1 ≡ q * 2 + 1 =
          or_block 1 q 0 1 1 (omega arith) (omega arith) ∙ ap (λ (z : ℕ). z * 2 + 1) (or_zero_r q) in
          let t : q * 2 ≡ 2 * q = omega arith in
          let e : x + 1 ≡ (q * 2 + 1) * 2 ^ n + (w.rest + 1) =
          omega (arith, w.place, add-mul (q * 2) 1 (2 ^ n), ap (λ (z : ℕ). z * 2 ^ n) t) in
          let z : bit_or (x + 1) (2 ^ n) ≡ x + 1 = joined (q * 2 + 1) (w.rest + 1) e h ∙ rw odd (sym e) in
          rw z (record {
            word = record { block = q; rest = w.rest + 1; place = omega (arith, w.place); inside = h };
            later = omega arith;
            between-none = λ y k l. absurd (omega arith);
          })
      at (no h) =
          let even : bit_or ((q + 1) * 2) 1 ≡ (q + 1) * 2 + 1 = or_shifted (q + 1) 1 1 (omega arith) in
          let t : (q + 1) * 2 ≡ 2 * q + 2 = omega arith in
          let u : 2 * (q + 1) ≡ 2 * q + 2 = omega arith in
          let e : x + 1 ≡ (q + 1) * 2 * 2 ^ n + 0 = rw t (omega (arith, w.place, w.inside, add-mul (2 * q) 2 (2 ^ n))) in
          let z : bit_or (x + 1) (2 ^ n) ≡ 2 * (q + 1) * 2 ^ n + 2 ^ n =
          joined ((q + 1) * 2) 0 e (pow_pos n) ∙ rw (even, t, u) (omega (arith, add-mul (2 * q + 2) 1 (2 ^ n))) in
          rw z (record {
            word = record { block = q + 1; rest = 0; place = omega arith; inside = pow_pos n };
            later = omega (arith, pow_pos n);
            between-none = λ y k l. first_half n (q + 1) y (omega arith) l;
          })

-- A table whose entries below x, a word that has bit n, are joined where they have it.
pub record Stepped (old : List ℕ) (n : ℕ) (l : List ℕ) (x : ℕ) : Type 0 where
  word : Word n x
  pub joined : Joined (words_before x n) (2 ^ n) old l

module _ (old : List ℕ) (n : ℕ) (h : n < 64) where
  pub step_start : Stepped old n old (shifted n)
  step_start =
      rw (power n h) (record {
        word = record { block = 0; rest = 0; place = omega arith; inside = pow_pos n };
        joined = joined-none (2 ^ n) old (words_before (2 ^ n) n) (λ y. none y (dec_lt y (2 ^ n)));
      })
    where
      none : (y : ℕ) → Dec (y < 2 ^ n) → words_before (2 ^ n) n y ≡ false
      none y (yes k) = rw (first_half n 0 y (omega arith) (omega arith)) (and-false (ltb y (2 ^ n)))
      none y (no k) = rw (le-ltb y (2 ^ n) (omega arith))

  module _ (l : List ℕ) (x : ℕ) (s : Stepped old n l x) where
    pub step_back : shifted n ≤ x
    step_back = omega (arith, power n h, s.word.place)

    pub step_less : (words : ℕ) → x < words → words - bit_or (x + 1) (shifted n) < words - x
    step_less words k = rw (power n h) (omega (arith, (next_word n x s.word).later))

    stepped : x < length l → (z : ℕ) → Next n x s.word z
        → Stepped old n (set l x (bit_or (get_or l x 0) (get_or l (x - 2 ^ n) 0))) z
    stepped k z w =
        record {
          word = w.word;
          joined = joined-set (2 ^ n) old (words_before x n) (words_before z n) l x k s.joined
              (rw (le-ltb x x (omega arith)))
              (rw (without-bit n x s.word) (and-false (ltb (x - 2 ^ n) x)))
              (rw (lt-ltb x z w.later) (word_bit n x s.word))
              (λ y d. same y d (dec_lt y x) (dec_lt y z));
        }
      where
        same : (y : ℕ) → (y ≡ x → ⊥) → Dec (y < x) → Dec (y < z) → words_before x n y ≡ words_before z n y
        same y d (yes q) r = rw (lt-ltb y x q, lt-ltb y z (omega (arith, w.later)))
        same y d (no q) (yes r) =
            rw (w.between-none y (omega arith) r, and-false (ltb y x), and-false (ltb y z))
        same y d (no q) (no r) = rw (le-ltb y x (omega arith), le-ltb y z (omega arith))

    pub step_turn : x < length l
        → Stepped old n (set l x (bit_or (get_or l x 0) (get_or l (x - shifted n) 0))) (bit_or (x + 1) (shifted n))
    step_turn k = rw (power n h) (stepped k (bit_or (x + 1) (2 ^ n)) (next_word n x s.word))

module _ (old : List ℕ) (bits : ℕ) where
  pub zeta-start : ZetaTo 0 (2 ^ bits) old old
  unfolding zeta
  zeta-start = λ x h. refl

  module _ (l : List ℕ) (n : ℕ) (s : ZetaTo n (2 ^ bits) old l) where
    pub zeta_turn : (m : List ℕ) → bits < 64 → ZetaStep n (shifted bits) l m → ZetaTo (n + 1) (2 ^ bits) old m
    unfolding zeta
    zeta_turn m few j =
        λ x k. j x (omega (arith, power bits few)) ∙ rw (add-one n, s x k, s (x - 2 ^ n) (omega arith))
