-- One turn of the loops of type elimination, over plain values.
--   list_enumerates                             a list of members in rising order enumerates a set
--   enumerates_few, enumerates_inside           there are few, and all in the table
--   enter_start, enter_turn                     the words of the fillers at listed types, each at its own place
--   keeps_all, keeps_both                       what tests keep of a set: one that all pass, two in a row
--   keeps_within, keeps_cong                    it is within the set; a test that says the same
--   taken_kept, taken_out                       a member taken out of a set and of its list
--   RemovedBelow, remove_start, .., remove_end  the members that fail a test, removed one by one
-- Assumes nothing.
use Prim.Native.Nat.{ℕ, ◌+◌, ◌-◌, ◌≤◌, ◌<◌}
use native.Mathlib.Omega.{arith}
use native.Mathlib.Decide.{ℕ_discrete, dec_lt}
use mathlib.Core.Path.{◌≡◌, refl, sym, ap, ◌∙◌}
use mathlib.Core.Bool.{Bool, true, false, cond, ◌&&◌, and-true}
use mathlib.Core.List.{List}
use mathlib.Core.Logic.{◌⊎◌, inl, inr}
use lib.ListN.{length, get_or, set, length-set}
use lib.Dec.{eqb}
use lib.Seq.{get_or-set_same, get_or-set_other}
use borrow.Author.Tests.{eq-eqb, ne_eqb}
use Rattle.records.specs.Finite.{any_below, has, list_below}
use Rattle.std.specs.List.{swap_remove}
use Rattle.std.proofs.lemmas.List.{get_or-take, length-take-le}
use Rattle.records.proofs.Laws.Search.{any_hit, any_miss}
use Rattle.records.proofs.Laws.Tests.{clash, both_left}
use Rattle.types.specs.Comparison.{type_limit}
use Rattle.types.specs.Code.Elimination.{Enumerates, Enters, Keeps}
use Rattle.records.proofs.Laws.Filling.{Ends}
use Rattle.records.proofs.Laws.Listing.{entries, entry, Placed, entry-sound, entry_found, entry_rises, entries-members}
use Rattle.records.proofs.Laws.Sets.{Within, has-inside, members-bound, members_out}

-- The members of a set, listed in rising order, enumerate it.
pub list_enumerates : (S : List Bool) (t : ℕ) → Ends S t → Enumerates (list_below (has S) t) S
list_enumerates S t ends =
    record {
      sound = λ j h. (entry-sound (has S) t j h).passes;
      finds = λ u m. at u m (dec_lt u t);
      apart = λ i j a b e. same i j a b e (dec_lt i j) (dec_lt j i);
      counted = entries-members t S ends;
    }
  where
    at : (u : ℕ) → has S u ≡ true → Dec (u < t) → Placed (has S) t u
    at u m (yes k) = entry_found (has S) t u k m
    at u m (no k) = let none = ends u (omega arith) in absurd (clash (cc))

    same : (i j : ℕ) → i < entries (has S) t → j < entries (has S) t → entry (has S) t i ≡ entry (has S) t j
        → Dec (i < j) → Dec (j < i) → i ≡ j
    same i j a b e (yes k) q = absurd (omega (arith, entry_rises (has S) t i j k b))
    same i j a b e (no k) (yes m) = absurd (omega (arith, entry_rises (has S) t j i m a))
    same i j a b e (no k) (no m) = omega arith

-- A set in a table of all types has no more members than that, and its list has numbers of the table.
pub enumerates_few : (list : List ℕ) (S : List Bool) → Enumerates list S → length S ≡ type_limit → length list ≤ type_limit
enumerates_few list S l e = omega (arith, l.counted, members-bound S)

pub enumerates_inside : (list : List ℕ) (S : List Bool) → Enumerates list S → length S ≡ type_limit
    → (j : ℕ) → j < length list → get_or list j 0 < type_limit
enumerates_inside list S l e j h = omega (arith, has-inside S (get_or list j 0) (l.sound j h))

module _ (filling list : List ℕ) (words : ℕ) (joins : List ℕ) where
  pub enter_start : ((x : ℕ) → x < words → get_or joins x 0 ≡ 0) → Enters filling list 0 words joins
  unfolding any_below
  enter_start zeros = zeros

  pub enter_turn : (j : ℕ) → Enters filling list j words joins → get_or filling (get_or list j 0) 0 < length joins
      → Enters filling list (j + 1) words (set joins (get_or filling (get_or list j 0) 0) (get_or filling (get_or list j 0) 0))
      × (length (set joins (get_or filling (get_or list j 0) 0) (get_or filling (get_or list j 0) 0)) ≡ length joins)
  enter_turn j entered h = (λ x k. at x k (ℕ_discrete x o), length-set joins o o)
    where
      o : ℕ
      o = get_or filling (get_or list j 0) 0

      -- Whether the listed type's word is x.
      has_word : ℕ → ℕ → Bool
      has_word x i = eqb (get_or filling (get_or list i 0) 0) x

      at : (x : ℕ) → x < words → Dec (x ≡ o) → get_or (set joins o o) x 0 ≡ cond (any_below (has_word x) (j + 1)) x 0
      at x k (yes q) =
          rw q (get_or-set_same joins o o 0 h ∙ ap (λ (b : Bool). cond b o 0) (any_hit (has_word o) j (eq-eqb o o refl)))
      at x k (no q) =
          get_or-set_other joins o x o 0 q ∙ entered x k
          ∙ ap (λ (b : Bool). cond b x 0) (any_miss (has_word x) j _ refl (ne_eqb o x (λ e. q (sym e))))

module _ (f : ℕ → Bool) (S : List Bool) where
  pub keeps_all : ((t : ℕ) → f t ≡ true) → Keeps f S S
  keeps_all all = λ t. rw (all t) (sym (and-true (has S t)))

  module _ (R : List Bool) (w : Keeps f S R) where
    pub keeps_within : Within R S
    keeps_within t h = both_left (has S t) (f t) (sym (w t) ∙ h)

    module _ (g : ℕ → Bool) where
      pub keeps_cong : ((t : ℕ) → has S t ≡ true → f t ≡ g t) → Keeps g S R
      keeps_cong e = λ t. w t ∙ at t (has S t) refl
        where
          at : (t : ℕ) (b : Bool) → has S t ≡ b → (b && f t) ≡ (b && g t)
          at t true q = e t q
          at t false q = refl

      pub keeps_both : (Q : List Bool) → Keeps g R Q → Keeps (λ t. f t && g t) S Q
      keeps_both Q z =
          λ t. z t ∙ ap (λ (x : Bool). x && g t) (w t) ∙ three (has S t) (f t) (g t)
        where
          three : (x y z : Bool) → ((x && y) && z) ≡ (x && (y && z))
          three true y z = refl
          three false y z = refl

-- One member taken out of a set and of the list that enumerates it, where the last takes its place.
module _ (list : List ℕ) (R : List Bool) (j : ℕ) (l : Enumerates list R) (h : j < length list) where
  abbrev out : ℕ
  out = get_or list j 0

  abbrev last : ℕ
  last = length list - 1

  abbrev shorter : List ℕ
  shorter = swap_remove list j 0

  shorter-length : length shorter ≡ last
  shorter-length = length-take-le last _ (omega (arith, length-set list j (get_or list last 0)))

  filled : j < last → get_or shorter j 0 ≡ get_or list last 0
  filled k = get_or-take last _ j 0 k ∙ get_or-set_same list j (get_or list last 0) 0 h

  pub taken_kept : (i : ℕ) → i < last → (i ≡ j → ⊥) → get_or shorter i 0 ≡ get_or list i 0
  taken_kept i k d = get_or-take last _ i 0 k ∙ get_or-set_other list j i (get_or list last 0) 0 d

  -- where an entry of the shorter list stood before: not at j
  record Stood (i p : ℕ) : Type 0 where
    below : p < length list
    entry : get_or shorter i 0 ≡ get_or list p 0
    other : p ≡ j → ⊥
    which : ((i ≡ j) × (p ≡ last)) ⊎ (i ≡ p)

  stood : (i : ℕ) → i < length shorter → (p : ℕ) × Stood i p
  stood i k = at (omega (arith, shorter-length)) (ℕ_discrete i j)
    where
      at : i < last → Dec (i ≡ j) → (p : ℕ) × Stood i p
      at k (yes q) = (
        last,
        record {
          below = omega arith;
          entry = rw q (filled (omega arith));
          other = λ e. omega arith;
          which = inl (q, refl);
        },
      )
      at k (no q) = (
        i,
        record {
          below = omega arith;
          entry = taken_kept i k q;
          other = q;
          which = inr refl;
        },
      )

  -- the others are no copies of the one taken out
  unlike : (p : ℕ) → p < length list → (p ≡ j → ⊥) → get_or list p 0 ≡ out → ⊥
  unlike p k d e = d (l.apart p j k h e)

  pub taken_out : Enumerates shorter (set R out false)
  taken_out =
      record {
        sound = λ i k. let s = stood i k in
            rw s.1.entry (get_or-set_other R out (get_or list s.0 0) false false
            (unlike s.0 s.1.below s.1.other) ∙ l.sound s.0 s.1.below);
        finds = λ t m. finds_at t m (ℕ_discrete t out);
        apart = λ i k a b e. let s = stood i a in let z = stood k b in
            apart_at s.0 z.0 i k (l.apart s.0 z.0 s.1.below z.1.below
            (sym s.1.entry ∙ e ∙ z.1.entry)) (omega (arith, shorter-length)) (omega (arith, shorter-length)) s.1.which z.1.which;
        counted = omega (arith, shorter-length, l.counted, members_out R out (l.sound j h));
      }
    where
      Place : ℕ → Type 0
      Place t = (i : ℕ) × (i < length shorter) × (get_or shorter i 0 ≡ t)

      place_at : (t i : ℕ) → i < length list → get_or list i 0 ≡ t → (i ≡ j → ⊥) → Dec (i ≡ last) → Place t
      place_at t i k e d (yes q) = (
        j,
        omega (arith, shorter-length),
        filled (omega arith) ∙ ap (λ (n : ℕ). get_or list n 0) (sym q) ∙ e,
      )
      place_at t i k e d (no q) = (i, omega (arith, shorter-length), taken_kept i (omega arith) d ∙ e)

      finds_at : (t : ℕ) → has (set R out false) t ≡ true → Dec (t ≡ out) → Place t
      finds_at t m (yes q) =
          let gone = get_or-set_same R out false false (has-inside R out (l.sound j h)) in
          let same = ap (λ (n : ℕ). has (set R out false) n) q in
          absurd (clash (cc))
      finds_at t m (no q) =
          let f = l.finds t (sym (get_or-set_other R out t false false q) ∙ m) in
          place_at t f.0 f.1 f.2 (λ e. q (sym f.2 ∙ ap (λ (n : ℕ). get_or list n 0) e)) (ℕ_discrete f.0 last)

      apart_at : (p q i k : ℕ) → p ≡ q → i < last → k < last
          → ((i ≡ j) × (p ≡ last)) ⊎ (i ≡ p) → ((k ≡ j) × (q ≡ last)) ⊎ (k ≡ q) → i ≡ k
      apart_at p q i k e a b (inl x) (inl y) = x.0 ∙ sym y.0
      apart_at p q i k e a b (inl x) (inr y) = absurd (omega (arith, x.1))
      apart_at p q i k e a b (inr x) (inl y) = absurd (omega (arith, y.1))
      apart_at p q i k e a b (inr x) (inr y) = x ∙ e ∙ sym y

-- The members of a set that fail a test, removed: the listed types before j were tested.
module _ (met : ℕ → Bool) (S : List Bool) where
  pub record RemovedBelow (list : List ℕ) (R : List Bool) (j : ℕ) : Type 0 where
    pub listed : Enumerates list R
    pub within : Within R S
    pub gone : (t : ℕ) → has S t ≡ true → has R t ≡ false → met t ≡ false
    pub passed : (i : ℕ) → i < j → met (get_or list i 0) ≡ true

  pub remove_start : (list : List ℕ) → Enumerates list S → RemovedBelow list S 0
  remove_start list l =
      record {
        listed = l;
        within = λ t h. h;
        gone = λ t m n. absurd (clash (cc));
        passed = λ i h. absurd (omega arith);
      }

  module _ (list : List ℕ) (R : List Bool) (j : ℕ) (s : RemovedBelow list R j) where
    abbrev u : ℕ
    u = get_or list j 0

    pub remove_kept : met u ≡ true → RemovedBelow list R (j + 1)
    remove_kept e =
        record {
          listed = s.listed;
          within = s.within;
          gone = s.gone;
          passed = λ i h. at i h (ℕ_discrete i j);
        }
      where
        at : (i : ℕ) → i < j + 1 → Dec (i ≡ j) → met (get_or list i 0) ≡ true
        at i h (yes q) = rw q e
        at i h (no q) = s.passed i (omega arith)

    pub remove_out : j < length list → met u ≡ false → RemovedBelow (swap_remove list j 0) (set R u false) j
    remove_out h e =
        record {
          listed = taken_out list R j s.listed h;
          within = λ t m. s.within t (still t m (ℕ_discrete t u));
          gone = λ t m n. gone_at t m n (ℕ_discrete t u);
          passed = λ i k. rw (taken_kept list R j s.listed h i (omega arith) (λ q. omega arith)) (s.passed i k);
        }
      where
        other : (t : ℕ) → (t ≡ u → ⊥) → has (set R u false) t ≡ has R t
        other t d = get_or-set_other R u t false false d

        still : (t : ℕ) → has (set R u false) t ≡ true → Dec (t ≡ u) → has R t ≡ true
        still t m (yes q) = rw q (s.listed.sound j h)
        still t m (no q) = sym (other t q) ∙ m

        gone_at : (t : ℕ) → has S t ≡ true → has (set R u false) t ≡ false → Dec (t ≡ u) → met t ≡ false
        gone_at t m n (yes q) = rw q e
        gone_at t m n (no q) = s.gone t m (sym (other t q) ∙ n)

    pub remove_end : length list ≤ j → Keeps met S R
    remove_end h = λ t. at t (has S t) (has R t) refl refl
      where
        at : (t : ℕ) (a b : Bool) → has S t ≡ a → has R t ≡ b → b ≡ (a && met t)
        at t true true p q =
            let f = s.listed.finds t q in
            sym (ap met (sym f.2) ∙ s.passed f.0 (omega (arith, f.1)))
        at t true false p q = sym (s.gone t p q)
        at t false true p q = let there = s.within t q in absurd (clash (cc))
        at t false false p q = refl
