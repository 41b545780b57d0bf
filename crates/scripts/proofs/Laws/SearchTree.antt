-- Ways through the search trees of the index, over plain tables.
--   passes-some, passes_other, ended_code   what it tells that a search passes a slot, or ends there
--   came-start, came-next, came-over        a search begins, and passes a record; it came over records
--   way_within, came-within                 the slot of a way is in the table
--   found_none                              where a search ended at no record, no record of that code is met
--   Shared, shared_more, ways_shared        two ways to one slot
--   came-few                                so a search is short
--   kept_link, kept-met, new-met            what is linked and met once a record was linked at an empty slot
-- Assumes nothing.
use Prim.Native.Nat.{ℕ, zero, suc, ◌+◌, ◌*◌, ◌/◌, ◌%◌, ◌^◌, ◌≤◌, ◌<◌}
use native.Mathlib.Omega.{arith}
use native.Mathlib.Decide.{ℕ_discrete, dec_lt}
use mathlib.Core.Path.{◌≡◌, refl, sym, ap, subst, ◌∙◌}
use mathlib.Core.Bool.{true, false, not}
use mathlib.Core.List.{List}
use lib.ListN.{length, set}
use lib.Seq.{get_or-set_same, get_or-set_other}
use lib.Dec.{eqb}
use borrow.Author.Tests.{eq-eqb, ne_eqb}
use Rattle.records.proofs.Laws.Tests.{clash, both_right}
use Rattle.records.proofs.Laws.Bits.{digits_same}
use Rattle.scripts.specs.Code.Codes.{function_limit}
use Rattle.scripts.specs.Code.Index.{code_in, link_count, linked, slot_at, LeadsOver, Met, Tree, passes, CameTo}
use Rattle.scripts.specs.Code.Index.{function_bits, Found}

module _ (links terms : List ℕ) (code : ℕ) where
  pub passes-some : (slot : ℕ) → passes links terms code slot ≡ true → 0 < linked links slot
  passes-some slot e = at (ℕ_discrete (linked links slot) 0)
    where
      at : Dec (linked links slot ≡ 0) → 0 < linked links slot
      at (yes z) =
          let no : passes links terms code slot ≡ false = rw (eq-eqb (linked links slot) 0 z) in
          absurd (clash (cc))
      at (no n) = omega arith

  passes_other : (slot : ℕ) → passes links terms code slot ≡ true → code_in terms (linked links slot) ≡ code → ⊥
  passes_other slot e q =
      let j = linked links slot in
      let differs = both_right (not (eqb j 0)) (not (eqb (code_in terms j) code)) e in
      let same = ap not (eq-eqb (code_in terms j) code q) in
      clash (cc)

  pub ended_code : (slot : ℕ) → passes links terms code slot ≡ false → 0 < linked links slot
      → code_in terms (linked links slot) ≡ code
  ended_code slot e p = at (ℕ_discrete (code_in terms (linked links slot)) code)
    where
      at : Dec (code_in terms (linked links slot) ≡ code) → code_in terms (linked links slot) ≡ code
      at (yes q) = q
      at (no n) =
          let j = linked links slot in
          let on : passes links terms code slot ≡ true =
          rw (ne_eqb j 0 (λ z. omega arith), ne_eqb (code_in terms j) code n) in
          absurd (clash (cc))

  pub came-start : CameTo links terms code (link_count * (code / function_limit)) 0
  unfolding slot_at
  came-start = record { place = refl; over = λ m h. absurd (omega arith) }

  pub came-next : (slot n next rest : ℕ) → CameTo links terms code slot n → passes links terms code slot ≡ true
      → rest ≡ code / 2 ^ n → next ≡ link_count * linked links slot + 1 + rest % 2 → CameTo links terms code next (suc n)
  unfolding slot_at
  came-next slot n next rest c e r q =
      record { place = q ∙ rw (r, c.place) refl; over = λ m h. at m h (ℕ_discrete m n) }
    where
      at : (m : ℕ) → m < suc n → Dec (m ≡ n) → passes links terms code (slot_at links code m) ≡ true
      at m h (yes z) = rw (z, sym c.place) e
      at m h (no d) = c.over m (omega arith)

  pub came-over : (slot n : ℕ) → CameTo links terms code slot n → LeadsOver links code n
  came-over slot n c m h = passes-some (slot_at links code m) (c.over m h)

  -- the slot of a way over records belongs to the inner term, or to one of the records
  pub way_within : (b n : ℕ) → code / function_limit < b → ((slot : ℕ) → 0 < linked links slot → linked links slot < b)
      → LeadsOver links code n → slot_at links code n < link_count * b
  unfolding slot_at
  way_within b zero h within over = omega arith
  way_within b (suc n) h within over =
      omega (arith, within (slot_at links code n) (over n (omega arith)))

  pub came-within : (slot n : ℕ) → Tree links terms → code / function_limit < length terms → CameTo links terms code slot n
      → slot < length links
  came-within slot n r h c =
      rw (c.place, r.size) (way_within (length terms) n h r.within (came-over slot n c))

  -- where a search ended at no record, no record of that code is met
  pub found_none : (slot j : ℕ) → Found links terms code slot → linked links slot ≡ 0 → Met links code j → 0 < j
      → code_in terms j ≡ code → ⊥
  found_none slot j f z m p q = at (dec_lt m.steps f.steps) (dec_lt f.steps m.steps)
    where
      at : Dec (m.steps < f.steps) → Dec (f.steps < m.steps) → ⊥
      at (yes h) d =
          passes_other (slot_at links code m.steps) (f.came.over m.steps h) (rw m.here q)
      at (no h) (yes k) =
          let some = m.over f.steps k in
          let none : linked links (slot_at links code f.steps) ≡ 0 = rw (sym f.came.place) z in
          omega (arith, some, none)
      at (no h) (no k) =
          let e : f.steps ≡ m.steps = omega arith in
          let none : linked links (slot_at links code f.steps) ≡ 0 = rw (sym f.came.place) z in
          let here : linked links (slot_at links code f.steps) ≡ j = rw e m.here in
          omega (arith, none, here)

module _ (links terms : List ℕ) (tree : Tree links terms) where
  -- two ways to one slot are equally long, and their codes have the inner term and as many bits in common
  record Shared (c d m n : ℕ) : Type 0 where
    pub steps : m ≡ n
    pub inner : c / function_limit ≡ d / function_limit
    pub bits : (k : ℕ) → k < m → c / 2 ^ k % 2 ≡ d / 2 ^ k % 2

  shared_more : (c d m n : ℕ) → Shared c d m n → c / 2 ^ m % 2 ≡ d / 2 ^ n % 2 → Shared c d (suc m) (suc n)
  shared_more c d m n s last =
      record {
        steps = ap (λ (x : ℕ). suc x) s.steps;
        inner = s.inner;
        bits = λ k h. at k h (ℕ_discrete k m);
      }
    where
      at : (k : ℕ) → k < suc m → Dec (k ≡ m) → c / 2 ^ k % 2 ≡ d / 2 ^ k % 2
      at k h (yes z) = rw z (last ∙ ap (λ (x : ℕ). d / 2 ^ x % 2) (sym s.steps))
      at k h (no z) = s.bits k (omega arith)

  ways_shared : (c d m n : ℕ) → LeadsOver links c m → LeadsOver links d n → slot_at links c m ≡ slot_at links d n
      → Shared c d m n
  unfolding slot_at
  ways_shared c d zero zero p q e = record { steps = refl; inner = omega arith; bits = λ k h. absurd (omega arith) }
  ways_shared c d zero (suc n) p q e = absurd (omega arith)
  ways_shared c d (suc m) zero p q e = absurd (omega arith)
  ways_shared c d (suc m) (suc n) p q e =
      let from : linked links (slot_at links c m) ≡ linked links (slot_at links d n) = omega arith in
      let last : c / 2 ^ m % 2 ≡ d / 2 ^ n % 2 = omega arith in
      let one = tree.apart (slot_at links c m) (slot_at links d n) (p m (omega arith)) from in
      shared_more c d m n (ways_shared c d m n (λ k h. p k (omega arith)) (λ k h. q k (omega arith)) one) last

  -- so a search does not pass more records than a function has bits
  pub came-few : (code slot n : ℕ) → CameTo links terms code slot n → n ≤ function_bits
  came-few code slot n c = at (dec_lt function_bits n)
    where
      at : Dec (function_bits < n) → n ≤ function_bits
      at (no h) = omega arith
      at (yes h) =
          let p = slot_at links code function_bits in
          let passed = c.over function_bits h in
          let m = tree.met p (passes-some links terms code p passed) in
          let over = came-over links terms code slot n c in
          let own = code_in terms (linked links p) in
          let one = tree.apart p (slot_at links own m.steps) (passes-some links terms code p passed) (sym m.here) in
          let shared = ways_shared code own function_bits m.steps (λ k l. over k (omega arith)) m.over one in
          absurd (passes_other links terms code p passed
          (sym (digits_same function_bits code own shared.bits shared.inner)))

-- Record i is linked at an empty slot.
module _ (links : List ℕ) (slot i : ℕ) (empty : linked links slot ≡ 0) where
  pub kept_link : (p : ℕ) → 0 < linked links p → linked (set links slot i) p ≡ linked links p
  kept_link p h = get_or-set_other links slot p i 0 (λ e. omega (arith, h, (subst (λ (x : ℕ). linked links x ≡ 0) (sym e) empty)))

  kept_slot : (code n : ℕ) → LeadsOver links code n → (m : ℕ) → m ≤ n
      → slot_at (set links slot i) code m ≡ slot_at links code m
  unfolding slot_at
  kept_slot code n over zero h = refl
  kept_slot code n over (suc m) h =
      rw (kept_slot code n over m (omega arith), kept_link (slot_at links code m) (over m (omega arith))) refl

  kept-over : (code n : ℕ) → LeadsOver links code n → LeadsOver (set links slot i) code n
  kept-over code n over m h =
      rw (kept_slot code n over m (omega arith), kept_link (slot_at links code m) (over m h)) (over m h)

  pub kept-met : (code j : ℕ) → 0 < j → Met links code j → Met (set links slot i) code j
  kept-met code j p m =
      record {
        steps = m.steps;
        over = kept-over code m.steps m.over;
        here = rw (
          kept_slot code m.steps m.over m.steps (omega arith),
          kept_link (slot_at links code m.steps) (rw m.here p),
        ) m.here;
      }

  pub new-met : (terms : List ℕ) (code : ℕ) → Found links terms code slot → slot < length links → Met (set links slot i) code i
  new-met terms code f h =
      let over = came-over links terms code slot f.steps f.came in
      record {
        steps = f.steps;
        over = kept-over code f.steps over;
        here = rw (kept_slot code f.steps over f.steps (omega arith), sym f.came.place)
            (get_or-set_same links slot i 0 h);
      }
