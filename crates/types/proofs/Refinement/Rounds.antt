-- A round by removals, role after role, and the rounds one after the other.
--   full_word                                         the word of all bits, as the code makes it
--   AfterRoles, roles-start, roles_skip, roles_turn   what is left after the roles below r
--   round_same                                        a round goes by the set, not by its table
--   stage-ends, survivors_end, round_rests            a set that has nothing past the types; a round that removes nothing
--   good, bits_few                                    in an elimination: an accepted vocabulary, few bits
--   reached_in, met-role, role_skipped                the words lie in the table of joins; one role's test
--   filler_word_in, joins_done                         the table of joins
--   round_done, eliminating_on                        after all roles it is the round; the state after it
--   round-stage                                       a round of a stage is the next one, and the count goes along
--   count_rests, count_falls                          a round removes something exactly when the count falls
--   rests_survivors, removing_on, rounds-left         rounds one after the other
-- Assumes nothing.
use Prim.Native.Nat.{ℕ, zero, suc, ◌+◌, ◌-◌, ◌*◌, ◌%◌, ◌^◌, ◌≤◌, ◌<◌}
use native.Mathlib.Omega.{arith}
use native.Mathlib.Numerals.{add-one}
use native.Mathlib.Decide.{dec_lt}
use mathlib.Core.Path.{◌≡◌, refl, sym, ap, ap₂, ◌∙◌}
use mathlib.Core.Bool.{Bool, true, false, cond, not, ◌&&◌, and-true}
use mathlib.Core.List.{List}
use lib.ListN.{length, get_or}
use lib.Dec.{eqb}
use lib.Bits.{bit_or}
use lib.Pow.{pow_mono, shl_exact}
use borrow.Author.Tests.{not-false}
use Rattle.records.specs.Format.{role_count, count}
use Rattle.records.specs.Finite.{any_below, all_below, has, members}
use Rattle.records.proofs.Laws.Tests.{clash, both_left, both_right, both_true, same_truth, unless_true, unless_false}
use Rattle.records.proofs.Laws.Search.{any_at, any_intro, any_elim}
use Rattle.records.proofs.Theorems.Accepted.{AcceptedFacts, accepted-vocabulary}
use Rattle.types.specs.Types.{types, served}
use Rattle.types.specs.Survivors.{satisfies, round, removes, stage, rounds, survivors}
use Rattle.types.specs.Comparison.{atom_limit, type_limit, counts_of, counts}
use Rattle.types.specs.Code.Words.{width, filler_word, reached, present_word, zeta, role_served}
use Rattle.types.specs.Code.Words.{FillerWords, SameSet}
use Rattle.types.specs.Code.Elimination.{Enters, ZetaTo, Joins, met_at, Keeps, Enumerates, Eliminating}
use Rattle.types.specs.Code.Elimination.{AtStage}
use Rattle.records.proofs.Laws.Sets.{table_at, table_past, table_cong, members-same}
use Rattle.types.proofs.Theorems.Survivors.{Removing, stage-length, round_less, stage_falls, rounds-is}
use Rattle.types.proofs.Laws.Zeta.{zeta_cong}
use Rattle.records.proofs.Laws.Filling.{Ends}
use Rattle.types.proofs.Refinement.Restrictions.{width-bound}
use Rattle.types.proofs.Refinement.Words.{reached-small, filler_word-small}
use Rattle.types.proofs.Refinement.Served.{served_by_words, served_cong, role-unused}
use Rattle.types.proofs.Invariants.Elimination.{keeps_all, keeps_both, keeps_cong}

pub full_word : (bits : ℕ) → bits < 16 → (1 * 2 ^ bits) % 2 ^ 16 ≡ 2 ^ bits
full_word bits h = shl_exact {a = 1} 1 bits 16 (omega arith) (omega arith) ∙ omega arith

module _ (v : List ℕ) (S : List Bool) where
  -- the roles below r are served at t
  abbrev below : ℕ → ℕ → Bool
  below r t = all_below (role_served v S t) r

  -- What the roles below r leave of S.
  abbrev pub AfterRoles : ℕ → List Bool → Type 0
  AfterRoles r R = Keeps (below r) S R

  pub roles-start : AfterRoles 0 S
  unfolding all_below
  roles-start = keeps_all (below 0) S (λ t. refl)

  -- one role further
  below_turn : (r t : ℕ) → below (r + 1) t ≡ (below r t && role_served v S t r)
  unfolding all_below
  below_turn r t = rw (add-one r)

  module _ (r : ℕ) (R : List Bool) (w : AfterRoles r R) where
    pub roles_skip : ((t : ℕ) → role_served v S t r ≡ true) → AfterRoles (r + 1) R
    roles_skip all =
        keeps_cong (below r) S R w (below (r + 1)) (λ t m. sym (below_turn r t ∙ rw (all t) (and-true (below r t))))

    pub roles_turn : (after : List Bool) (met : ℕ → Bool) → Keeps met R after
        → ((t : ℕ) → has S t ≡ true → met t ≡ role_served v S t r) → AfterRoles (r + 1) after
    roles_turn after met z agrees =
        keeps_cong (λ t. below r t && met t) S after (keeps_both (below r) S R w met after z) (below (r + 1))
        (λ t m. ap (λ (x : Bool). below r t && x) (agrees t m) ∙ sym (below_turn r t))

module _ (v : List ℕ) (S R : List Bool) (same : SameSet S R) where
  pub round_same : round v S ≡ round v R
  round_same = table_cong (types v) _ _ (λ t h. ap₂ ◌&&◌ (same t) (served_cong v S R t (λ s k. same s)))

module _ (v : List ℕ) where
  -- a round, below the types and past them
  round_at : (S : List Bool) (t : ℕ) → t < types v → has (round v S) t ≡ (has S t && served v S t)
  round_at S t h = table_at (types v) (λ t. has S t && served v S t) false t h

  round-ends : (S : List Bool) → Ends (round v S) (types v)
  round-ends S t h = table_past (types v) (λ t. has S t && served v S t) false t h

  -- no stage has a number past the types
  pub stage-ends : (n : ℕ) → Ends (stage v n) (types v)
  unfolding stage
  stage-ends zero t h = table_past (types v) (satisfies v) false t h
  stage-ends (suc n) t h = round-ends (stage v n) t h

  pub survivors_end : Ends (survivors v) (types v)
  unfolding survivors
  survivors_end = stage-ends (rounds v)

  -- a round that removes nothing leaves the set as it was
  pub round_rests : (S : List Bool) → Ends S (types v) → removes v S ≡ false → SameSet (round v S) S
  round_rests S ends e t = at (dec_lt t (types v))
    where
      stays : (a b : Bool) → (a && not b) ≡ false → (a && b) ≡ a
      stays true b q = not-false b q
      stays false b q = refl

      at : Dec (t < types v) → has (round v S) t ≡ has S t
      at (yes h) =
          round_at S t h ∙ stays (has S t) (served v S t) (any_at (λ t. has S t && not (served v S t)) (types v) e t h)
      at (no h) = round-ends S t (omega arith) ∙ sym (ends t (omega arith))

module _ {v : List ℕ} {bits : ℕ} {masks held remaining : List ℕ} {alive : List Bool}
    (s : Eliminating v bits masks held remaining alive) where
  pub good : AcceptedFacts v
  good = accepted-vocabulary v (count v) s.accepts

  pub bits_few : bits ≤ atom_limit
  bits_few = omega (arith, s.wide, s.few, width-bound v)

  member_below : (t : ℕ) → has alive t ≡ true → t < types v
  member_below t e = at (dec_lt t (types v))
    where
      at : Dec (t < types v) → t < types v
      at (yes h) = h
      at (no h) = let none = s.ends t (omega arith) in absurd (clash (cc))

  -- a word of so many bits is in the table of joins
  word_in : (x : ℕ) → x < 2 ^ width v → x < type_limit
  word_in x h = omega (arith, pow_mono {i = width v} {j = atom_limit} (omega (arith, s.few, width-bound v)))

  pub reached_in : (r t : ℕ) → r < role_count v → has alive t ≡ true → bit_or (get_or held t 0) (get_or masks r 0) < type_limit
  reached_in r t h m =
      rw (s.masked r h, s.held_words t (member_below t m)) (word_in (reached v t r) (reached-small v t r))

  pub met-role : (table : List ℕ) → Joins v alive table → (r t : ℕ) → r < role_count v → has alive t ≡ true
      → met_at table (get_or masks r 0) held t ≡ role_served v alive t r
  met-role table c r t h m =
      rw (s.masked r h, s.held_words t (member_below t m), c (reached v t r) (reached-small v t r))

  pub role_skipped : (r t : ℕ) → r < role_count v → get_or masks r 0 ≡ 2 ^ bits - 1 → role_served v alive t r ≡ true
  role_skipped r t h e = role-unused v alive t r (sym (s.masked r h) ∙ e ∙ ap (λ (n : ℕ). 2 ^ n - 1) s.wide)

  -- after all roles: the round, and the state that it leaves
  module _ (r : ℕ) (R : List Bool) (e : r ≡ role_count v) (roles : AfterRoles v alive r R) where
    pub round_done : SameSet R (round v alive)
    round_done t = at (dec_lt t (types v))
      where
        w : Keeps (served v alive) alive R
        w =
            keeps_cong (below v alive r) alive R roles (served v alive)
            (λ t m. sym (served_by_words v good alive t ∙ ap (λ (n : ℕ). below v alive n t) (sym e)))

        at : Dec (t < types v) → has R t ≡ has (round v alive) t
        at (yes h) = w t ∙ sym (round_at v alive t h)
        at (no h) =
            w t ∙ ap (λ (x : Bool). x && served v alive t) (s.ends t (omega arith)) ∙ sym
            (round-ends v alive t (omega arith))

    pub eliminating_on : (list : List ℕ) → Enumerates list R → Eliminating v bits masks held list R
    eliminating_on list l =
        record {
          accepts = s.accepts;
          few = s.few;
          wide = s.wide;
          masked = s.masked;
          held_words = s.held_words;
          listed = l;
          ends = λ t h. round_done t ∙ round-ends v alive t h;
        }

  module _ (filling : List ℕ) (o : FillerWords v filling) where
    pub filler_word_in : (j : ℕ) → j < length remaining → get_or filling (get_or remaining j 0) 0 < type_limit
    filler_word_in j h =
        let t = get_or remaining j 0 in
        rw (o t (member_below t (s.listed.sound j h))) (word_in (filler_word v t) (filler_word-small v t))

    -- the words entered are those of the set
    present_listed : (first : List ℕ) (words : ℕ) → Enters filling remaining (length remaining) words first → (x : ℕ) → x < words
        → get_or first x 0 ≡ present_word v alive x
    present_listed first words enters x h = enters x h ∙ ap (λ (b : Bool). cond b x 0) (same_truth _ _ onward back)
      where
        listed : ℕ → Bool
        listed i = eqb (get_or filling (get_or remaining i 0) 0) x

        all : ℕ → Bool
        all t = has alive t && eqb (filler_word v t) x

        has_word_lem : (t : ℕ) → t < types v → eqb (get_or filling t 0) x ≡ eqb (filler_word v t) x
        has_word_lem t k = ap (λ (y : ℕ). eqb y x) (o t k)

        onward : any_below listed (length remaining) ≡ true → any_below all (types v) ≡ true
        onward e =
            let f = any_elim listed (length remaining) e in
            let t = get_or remaining f.0 0 in
            let m = s.listed.sound f.0 f.1 in
            let k = member_below t m in
            any_intro all (types v) t k (both_true (has alive t) (eqb (filler_word v t) x) m (sym (has_word_lem t k) ∙ f.2))

        back : any_below all (types v) ≡ true → any_below listed (length remaining) ≡ true
        back e =
            let f = any_elim all (types v) e in
            let g = s.listed.finds f.0 (both_left (has alive f.0) (eqb (filler_word v f.0) x) f.2) in
            any_intro listed (length remaining) g.0 g.1
            (ap (λ (t : ℕ). eqb (get_or filling t 0) x) g.2
            ∙ has_word_lem f.0 f.1 ∙ both_right (has alive f.0) (eqb (filler_word v f.0) x) f.2)

    pub joins_done : (words : ℕ) (first last : List ℕ) → words ≡ 2 ^ bits
        → Enters filling remaining (length remaining) words first → ZetaTo bits (2 ^ bits) first last → Joins v alive last
    joins_done words first last e enters zeta-step x h =
        let k : x < 2 ^ bits = omega (arith, ap (λ (n : ℕ). 2 ^ n) s.wide) in
        zeta-step x k
        ∙ zeta_cong (λ y. get_or first y 0) (present_word v alive) bits x
        (λ y l. present_listed first words enters y (omega arith))
        ∙ ap (λ (n : ℕ). zeta (present_word v alive) n x) s.wide

-- A round of a stage is the next one, and the count goes along.
pub round-stage : (v : List ℕ) (S R : List Bool) (left : ℕ) → SameSet R (round v S) → left ≡ members R
    → (n : ℕ) → SameSet S (stage v n) → AtStage v (n + 1) R left
unfolding stage
round-stage v S R left leaves counted n same =
    rw (add-one n) record { same = next; counted = counted ∙ members-same R (stage v (suc n)) next }
  where
    next : SameSet R (stage v (suc n))
    next t = leaves t ∙ ap (λ (S : List Bool). has S t) (round_same v S (stage v n) same)

-- The count of one stage and the next: it falls exactly where the round removes something.
module _ {v : List ℕ} {n : ℕ} {S R : List Bool} {left rest : ℕ} (w : AtStage v n S left) (a : AtStage v (n + 1) R rest) where
  next : stage v (n + 1) ≡ round v (stage v n)
  unfolding stage
  next = rw (add-one n)

  pub count_rests : rest ≡ left → removes v (stage v n) ≡ false
  count_rests e =
      unless_true (removes v (stage v n))
      (λ q. omega (arith, w.counted, a.counted, ap members next, round_less v (stage v n) (stage-length v n) q))

  pub count_falls : (rest ≡ left → ⊥) → removes v (stage v n) ≡ true
  count_falls d =
      unless_false (removes v (stage v n))
      (λ q. d (a.counted ∙ ap members next
      ∙ members-same (round v (stage v n)) (stage v n) (round_rests v (stage v n) (stage-ends v n) q) ∙ sym w.counted))

  module _ (before : Removing v n) where
    -- a round that removes nothing leaves the survivors
    pub rests_survivors : rest ≡ left → SameSet R (survivors v) × (counts_of rest n ≡ counts v)
    unfolding survivors
    rests_survivors e =
        let none = count_rests e in
        let end = rounds-is v n none before in (
          λ t. a.same t ∙ ap (λ (S : List Bool). has S t) next ∙ round_rests v (stage v n) (stage-ends v n) none t
              ∙ ap (λ (n : ℕ). has (stage v n) t) end,
          ap₂ counts_of (e ∙ w.counted ∙ ap (λ (n : ℕ). members (stage v n)) end) end,
        )

    -- after one that removes something all rounds so far did
    pub removing_on : (rest ≡ left → ⊥) → Removing v (n + 1)
    removing_on d m h = at (dec_lt m n)
      where
        at : Dec (m < n) → removes v (stage v m) ≡ true
        at (yes l) = before m l
        at (no l) = let last : m ≡ n = omega arith in ap (λ (n : ℕ). removes v (stage v n)) last ∙ count_falls d

    -- so it was one of few
    pub rounds-left : (rest ≡ left → ⊥) → n + 1 ≤ types v
    rounds-left d = omega (arith, stage_falls v (n + 1) (removing_on d))
