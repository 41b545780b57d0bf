-- The served test by words is the paper's.
--   served-role, roles-served   a served type passes the words' test of each role, and one that passes them is served
--   served_by_words             the theorem
--   role-unused                 a role of no restriction passes
--   served_cong                 the test depends on what is in the set
-- Assumes nothing.
use Prim.Native.Nat.{ℕ, ◌-◌, ◌^◌, ◌<◌}
use mathlib.Core.Path.{◌≡◌, refl, sym, ap, subst, ◌∙◌}
use mathlib.Core.Bool.{Bool, true, false, not, ◌&&◌, ◌||◌, or-true}
use mathlib.Core.List.{List}
use lib.Dec.{eqb}
use lib.Bits.{bit_or, or_lt}
use borrow.Author.Tests.{eqb-true, eq-eqb, not-false}
use Rattle.records.specs.Format.{record_at, count, role_count}
use Rattle.records.proofs.Laws.Tests.{both_left, both_right, same_truth, implies_true, implies_rest}
use Rattle.records.proofs.Laws.Search.{any_intro, any_elim, any_cong}
use Rattle.records.proofs.Theorems.Accepted.{AcceptedFacts}
use Rattle.records.specs.Finite.{all_below, has, bit}
use Rattle.types.specs.Meaning.{Restriction, some, all, plain, restriction_at}
use Rattle.types.specs.Types.{types, truth, allowed, witnessed, met, served}
use Rattle.types.specs.Code.Words.{width, restriction, restriction_word, other_role_word, joins, reached, role_served}
use Rattle.records.proofs.Laws.Below.{all_intro, all_at, all_cong}
use Rattle.records.proofs.Laws.Bits.{bit-or, bits_same}
use Rattle.records.proofs.Laws.Width.{bit_ones}
use Rattle.types.proofs.Refinement.Restrictions.{restriction-sound, restrictions_intro, restrictions_at}
use Rattle.types.proofs.Refinement.Signed.{gives, met-plain, met-signed, role-below}
use Rattle.types.proofs.Refinement.Allowed.{allowed-inside, inside-allowed}
use Rattle.types.proofs.Refinement.Words.{Fills, restriction_word-bit, filler_word-bit, other_role_word-bit}
use Rattle.types.proofs.Refinement.Words.{other_role_word-small, reached-small, joins_intro, joins_elim, joins-small}

-- c or o is d or o, if c entails d or o, and, where o is false, d entails c. At a restriction's bit: c is the join's, d that of
-- what holds at the type, o whether the restriction is of another role.
agree : (c o d : Bool) → (c ≡ true → (d || o) ≡ true) → (o ≡ false → d ≡ true → c ≡ true) → (c || o) ≡ (d || o)
agree c true d f g = or-true c ∙ sym (or-true d)
agree true false true f g = refl
agree true false false f g = sym (f refl)
agree false false true f g = g refl refl
agree false false false f g = refl

only : (c o d : Bool) → (c || o) ≡ (d || o) → o ≡ false → d ≡ true → c ≡ true
only true o d e p q = refl
only false true d e p q = sym p
only false false d e p q = e ∙ ap (λ (b : Bool). b || false) q

module _ (v : List ℕ) where
  -- the role of restriction m; whether the set has a witness for it at t
  abbrev role : ℕ → ℕ
  role m = (record_at v (restriction v m)).a

  abbrev seen : List Bool → ℕ → ℕ → Bool
  seen S t m = witnessed v S t (role m) (λ s. gives v s (restriction v m))

  met-bit : (S : List Bool) (t m : ℕ) → m < width v
      → met v S t (restriction v m) (restriction_at v (restriction v m)) ≡ (not (bit (restriction_word v t) m) || seen S t m)
  met-bit S t m h =
      met-signed v (restriction v m) S t (restriction-sound v (count v) m h).restricts
      ∙ ap (λ (b : Bool). not b || seen S t m) (sym (restriction_word-bit v t m h))

  -- a witness is a type of the set whose word of the fillers has the bit
  witness_filler : (S : List Bool) (t m : ℕ) → m < width v → seen S t m ≡ true → Fills v S (reached v t (role m)) m
  witness_filler S t m h e =
      let wanted : ℕ → Bool = λ s. gives v s (restriction v m) in
      let f = any_elim (λ s. has S s && (allowed v (role m) t s && wanted s)) (types v) e in
      let s = f.0 in
      let rest = both_right (has S s) (allowed v (role m) t s && wanted s) f.2 in
      record {
        by = s;
        below = f.1;
        member = both_left (has S s) (allowed v (role m) t s && wanted s) f.2;
        inside = allowed-inside v (role m) t s (both_left (allowed v (role m) t s) (wanted s) rest);
        holds = filler_word-bit v s m h ∙ both_right (allowed v (role m) t s) (wanted s) rest;
      }

  filler_witness : (S : List Bool) (t m : ℕ) → m < width v → Fills v S (reached v t (role m)) m → seen S t m ≡ true
  filler_witness S t m h o =
      any_intro (λ s. has S s && (allowed v (role m) t s && gives v s (restriction v m))) (types v) o.by o.below
      (rw (o.member, inside-allowed v (role m) t o.by o.inside, sym (filler_word-bit v o.by m h) ∙ o.holds))

  -- what is joined is reached
  joined-reached : (S : List Bool) (t r j : ℕ) → bit (joins v S (reached v t r)) j ≡ true → bit (reached v t r) j ≡ true
  joined-reached S t r j e = let o = joins_elim v S (reached v t r) j e in o.inside j o.holds

  -- of a served type, what it holds for the role is joined
  restriction-joined : (S : List Bool) (t r m : ℕ) → served v S t ≡ true → m < width v
      → bit (other_role_word v r) m ≡ false → bit (restriction_word v t) m ≡ true → bit (joins v S (reached v t r)) m ≡ true
  unfolding served
  restriction-joined S t r m e h own wanted =
      let same = eqb-true (role m) r (not-false (eqb (role m) r) (sym (other_role_word-bit v r m h) ∙ own)) in
      let holds = restrictions_at v (λ i. met v S t i (restriction_at v i)) e m h in
      let found = implies_rest (bit (restriction_word v t) m) (seen S t m) (sym (met-bit S t m h) ∙ holds) wanted in
      subst (λ (k : ℕ). bit (joins v S (reached v t k)) m ≡ true) same
      (joins_intro v S (reached v t (role m)) m (reached-small v t (role m)) (witness_filler S t m h found))

  -- the bits of the two words that the test compares
  Agree : List Bool → ℕ → ℕ → ℕ → Type 0
  Agree S t r j = (bit (joins v S (reached v t r)) j || bit (other_role_word v r) j) ≡
      (bit (restriction_word v t) j || bit (other_role_word v r) j)

  role_by_bits : (S : List Bool) (t r : ℕ) → ((j : ℕ) → j < width v → Agree S t r j) → role_served v S t r ≡ true
  unfolding Agree
  role_by_bits S t r e =
      let x = reached v t r in
      let small = or_lt (width v) (joins v S x) (other_role_word v r) (joins-small v S x (reached-small v t r))
      (other_role_word-small v r) in
      eq-eqb (bit_or (joins v S x) (other_role_word v r)) x
      (bits_same (width v) (bit_or (joins v S x) (other_role_word v r)) x small (reached-small v t r)
      (λ j h. bit-or (joins v S x) (other_role_word v r) j ∙ e j h ∙ sym (bit-or (restriction_word v t) (other_role_word v r) j)))

  role_bits : (S : List Bool) (t r j : ℕ) → role_served v S t r ≡ true → Agree S t r j
  unfolding Agree
  role_bits S t r j e =
      let x = reached v t r in
      let same = eqb-true (bit_or (joins v S x) (other_role_word v r)) x e in
      sym (bit-or (joins v S x) (other_role_word v r) j) ∙ ap (λ (y : ℕ). bit y j) same ∙ bit-or (restriction_word v t)
      (other_role_word v r) j

  pub served-role : (S : List Bool) (t r : ℕ) → served v S t ≡ true → role_served v S t r ≡ true
  unfolding Agree
  served-role S t r e =
      role_by_bits S t r
      (λ j h. agree (bit (joins v S (reached v t r)) j) (bit (other_role_word v r) j) (bit (restriction_word v t) j)
      (λ c. sym (bit-or (restriction_word v t) (other_role_word v r) j) ∙ joined-reached S t r j c) (restriction-joined S t r j e
      h))

  -- a restriction of a role that passes the test is met
  restriction-met : (S : List Bool) (t m : ℕ) → m < width v → role_served v S t (role m) ≡ true
      → met v S t (restriction v m) (restriction_at v (restriction v m)) ≡ true
  unfolding Agree
  restriction-met S t m h e =
      let x = reached v t (role m) in
      let bits = role_bits S t (role m) m e in
      let own : bit (other_role_word v (role m)) m ≡ false = other_role_word-bit v (role m) m h ∙ ap not
      (eq-eqb (role m) (role m) refl) in
      met-bit S t m h
      ∙ implies_true (bit (restriction_word v t) m) (seen S t m)
      (λ w. filler_witness S t m h (joins_elim v S x m
      (only (bit (joins v S x) m) (bit (other_role_word v (role m)) m) (bit (restriction_word v t) m) bits own w)))

  pub roles-served : AcceptedFacts v → (S : List Bool) (t : ℕ) → ((r : ℕ) → r < role_count v → role_served v S t r ≡ true)
      → served v S t ≡ true
  unfolding served
  roles-served good S t each =
      restrictions_intro v (λ i. met v S t i (restriction_at v i)) (λ i e. met-plain v i S t e)
      (λ m h. let z = restriction-sound v (count v) m h in
      restriction-met S t m h (each (role m) (role-below v good (restriction v m) z.before z.restricts)))

  -- The theorem.
  pub served_by_words : AcceptedFacts v → (S : List Bool) (t : ℕ) → served v S t ≡ all_below (role_served v S t) (role_count v)
  served_by_words good S t =
      same_truth (served v S t) (all_below (role_served v S t) (role_count v))
      (λ e. all_intro (role_served v S t) (role_count v) (λ r l. served-role S t r e))
      (λ e. roles-served good S t (all_at (role_served v S t) (role_count v) e))

  pub role-unused : (S : List Bool) (t r : ℕ) → other_role_word v r ≡ 2 ^ width v - 1 → role_served v S t r ≡ true
  unfolding Agree
  role-unused S t r e = role_by_bits S t r at
    where
      at : (j : ℕ) → j < width v → Agree S t r j
      at j h =
          let other : bit (other_role_word v r) j ≡ true = ap (λ (y : ℕ). bit y j) e ∙ bit_ones (width v) j h in
          rw other (or-true (bit (joins v S (reached v t r)) j) ∙ sym (or-true (bit (restriction_word v t) j)))

  pub served_cong : (S R : List Bool) (t : ℕ) → ((s : ℕ) → s < types v → has S s ≡ has R s) → served v S t ≡ served v R t
  unfolding served
  served_cong S R t h =
      all_cong (λ i. met v S t i (restriction_at v i)) (λ i. met v R t i (restriction_at v i)) (count v)
      (λ i l. at i (restriction_at v i))
    where
      same : (r : ℕ) (wanted : ℕ → Bool) → witnessed v S t r wanted ≡ witnessed v R t r wanted
      same r wanted =
          any_cong (λ s. has S s && (allowed v r t s && wanted s)) (λ s. has R s && (allowed v r t s && wanted s)) (types v)
          (λ s l. ap (λ (b : Bool). b && (allowed v r t s && wanted s)) (h s l))

      at : (i : ℕ) (k : Restriction) → met v S t i k ≡ met v R t i k
      at i plain = refl
      at i (some r b) = ap (λ (x : Bool). not (truth v t i) || x) (same r (λ s. truth v s b))
      at i (all r b) = ap (λ (x : Bool). truth v t i || x) (same r (λ s. not (truth v s b)))
