-- The survivors are the largest set of types at which all statements hold and which serves each of its members.
--   types-bound, size_word                 few atoms have few types; how many, as a shift makes it
--   has-table, table-has                   the members of a set given by a test
--   stage_keeps                            what rounds keep holds of every stage
--   served_more                            a greater set serves more
--   stage-length                           each stage says of each type whether it is in it
--   round_less                             a round that removes something leaves fewer
--   rounds-bound, rounds_end               the rounds are at most 2^k, and the last leaves nothing to remove
--   rounds-before, rounds-is               which number of rounds it is
--   survivors-few                          there are no more survivors than types
--   survivors-serving, survivors-largest   the survivors are such a set, and the largest
-- Assumes nothing.
use Prim.Native.Nat.{ℕ, zero, suc, ◌+◌, ◌*◌, ◌%◌, ◌^◌, ◌≤◌, ◌<◌}
use native.Mathlib.Omega.{arith}
use native.Mathlib.Decide.{dec_lt}
use mathlib.Core.Path.{◌≡◌, refl, sym, ap, ◌∙◌}
use mathlib.Core.Bool.{Bool, true, false, not, ◌&&◌}
use mathlib.Core.List.{List}
use lib.ListN.{length}
use borrow.Author.Tests.{not-true, not-false}
use lib.Pow.{pow_mono, shl_exact}
use Rattle.records.specs.Format.{count}
use Rattle.records.specs.Atoms.{atoms}
use Rattle.records.proofs.Laws.Tests.{clash, both_left, both_right, both_true, both_rest, either_true, either_rest}
use Rattle.records.proofs.Laws.Tests.{implies_true, implies_rest}
use Rattle.records.proofs.Laws.Search.{any_at, any_elim, any_none}
use Rattle.records.specs.Finite.{table, has, members, least}
use Rattle.types.specs.Meaning.{Restriction, some, all, plain, restriction_at}
use Rattle.types.specs.Types.{types, truth, witnessed, met, served}
use Rattle.types.specs.Survivors.{satisfies, round, removes, stage, rounds, survivors, Serving, Largest}
use Rattle.types.specs.Comparison.{atom_limit, type_limit}
use Rattle.types.proofs.Theorems.Witnesses.{witness_holds, witness_gives}
use Rattle.records.proofs.Laws.Below.{all_intro, all_at, least-bound, least-holds, least-before, least-is, least_end}
use Rattle.records.proofs.Laws.Sets.{length-table, table_at, table_past, Within, members-bound, members_less, members-zero}

-- Few atoms have few types.
pub types-bound : (v : List ℕ) → atoms v ≤ atom_limit → types v ≤ type_limit
types-bound v h = pow_mono {j = atom_limit} h

-- The number of types, as a shift makes it.
pub size_word : (v : List ℕ) (k : ℕ) → atoms v ≤ atom_limit → k ≡ atoms v → (1 * 2 ^ k) % 18446744073709551616 ≡ types v
size_word v k few e =
    shl_exact {a = 1} 1 k 64 (omega arith) (omega arith) ∙ omega (arith, ap (λ (n : ℕ). 2 ^ n) e)

-- The members of a set given by a test.
pub has-table : (n : ℕ) (test : ℕ → Bool) (t : ℕ) → has (table n test) t ≡ true → (t < n) × (test t ≡ true)
has-table n test t h = at (dec_lt t n)
  where
    at : Dec (t < n) → (t < n) × (test t ≡ true)
    at (yes l) = (l, sym (table_at n test false t l) ∙ h)
    at (no g) = let e = table_past n test false t (omega arith) in absurd (clash (cc))

pub table-has : (n : ℕ) (test : ℕ → Bool) (t : ℕ) → t < n → test t ≡ true → has (table n test) t ≡ true
table-has n test t l e = table_at n test false t l ∙ e

-- The tests of a round: t stays; t goes; the round removes nothing.
abbrev stays : List ℕ → List Bool → ℕ → Bool
stays v S t = has S t && served v S t

abbrev goes : List ℕ → List Bool → ℕ → Bool
goes v S t = has S t && not (served v S t)

abbrev rests : List ℕ → ℕ → Bool
rests v n = not (removes v (stage v n))

-- Each round before the n-th removes something.
abbrev pub Removing : List ℕ → ℕ → Type 0
Removing v n = (m : ℕ) → m < n → removes v (stage v m) ≡ true

module _ (v : List ℕ) where
  pub stage_keeps : (P : List Bool → Type 0) → ((S : List Bool) → P S → P (round v S)) → P (stage v 0) → (n : ℕ) → P (stage v n)
  unfolding stage
  stage_keeps P step start zero = start
  stage_keeps P step start (suc n) = step (stage v n) (stage_keeps P step start n)

  witnessed_more : (S R : List Bool) → Within S R → (t r : ℕ) (wanted : ℕ → Bool) → witnessed v S t r wanted ≡ true
      → witnessed v R t r wanted ≡ true
  witnessed_more S R more t r wanted e =
      let f = witness_gives v S t r wanted e in
      let w = f.1 in
      witness_holds v R t r wanted f.0
      record { small = w.small; inside = more f.0 w.inside; pair = w.pair; wants = w.wants }

  met_more : (S R : List Bool) → Within S R → (t i : ℕ) (k : Restriction) → met v S t i k ≡ true → met v R t i k ≡ true
  met_more S R more t i (some r b) e =
      let wanted : ℕ → Bool = λ s. truth v s b in
      implies_true (truth v t i) (witnessed v R t r wanted)
      (λ h. witnessed_more S R more t r wanted (implies_rest (truth v t i) (witnessed v S t r wanted) e h))
  met_more S R more t i (all r b) e =
      let wanted : ℕ → Bool = λ s. not (truth v s b) in
      either_true (truth v t i) (witnessed v R t r wanted)
      (λ h. witnessed_more S R more t r wanted (either_rest (truth v t i) (witnessed v S t r wanted) e h))
  met_more S R more t i plain e = refl

  pub served_more : (S R : List Bool) → Within S R → (t : ℕ) → served v S t ≡ true → served v R t ≡ true
  unfolding served
  served_more S R more t e =
      all_intro (λ i. met v R t i (restriction_at v i)) (count v)
      (λ i l. met_more S R more t i (restriction_at v i) (all_at (λ i. met v S t i (restriction_at v i)) (count v) e i l))

  pub stage-length : (n : ℕ) → length (stage v n) ≡ types v
  unfolding stage
  stage-length zero = length-table (types v) (satisfies v)
  stage-length (suc n) = length-table (types v) (stays v (stage v n))

  round-within : (S : List Bool) → Within (round v S) S
  round-within S t h = both_left (has S t) (served v S t) (has-table (types v) (stays v S) t h).1

  -- a round that removes something leaves fewer
  pub round_less : (S : List Bool) → length S ≡ types v → removes v S ≡ true → members (round v S) < members S
  round_less S l e =
      let f = any_elim (goes v S) (types v) e in
      let t = f.0 in
      let inside = both_left (has S t) (not (served v S t)) f.2 in
      let unserved = not-true (served v S t) (both_right (has S t) (not (served v S t)) f.2) in
      let out : has (round v S) t ≡ false = table_at (types v) (stays v S) false t f.1 ∙ rw (inside, unserved) in
      members_less (round v S) S t (length-table (types v) (stays v S) ∙ sym l) (round-within S) inside out

  -- each round that removes something takes a type at least, so there are no more of them than types
  pub stage_falls : (n : ℕ) → Removing v n → members (stage v n) + n ≤ types v
  unfolding stage
  stage_falls zero h = omega (arith, members-bound (table (types v) (satisfies v)), length-table (types v) (satisfies v))
  stage_falls (suc n) h =
      omega (arith, stage_falls n (λ m l. h m (omega arith)), round_less (stage v n) (stage-length n) (h n (omega arith)))

  -- an empty set has nothing to remove
  empty_rests : (S : List Bool) → members S ≡ 0 → removes v S ≡ false
  empty_rests S e = any_none (goes v S) (types v) (λ t l. ap (λ (b : Bool). b && not (served v S t)) (members-zero S e t))

  pub rounds-bound : rounds v ≤ types v
  unfolding rounds
  rounds-bound = least-bound (types v) (rests v)

  pub rounds-before : (m : ℕ) → m < rounds v → removes v (stage v m) ≡ true
  unfolding rounds
  rounds-before m l = not-false (removes v (stage v m)) (least-before (types v) (rests v) m l)

  pub rounds_end : removes v (survivors v) ≡ false
  unfolding rounds survivors
  rounds_end = at (dec_lt (rounds v) (types v))
    where
      at : Dec (rounds v < types v) → removes v (stage v (rounds v)) ≡ false
      at (yes l) = not-true (removes v (stage v (rounds v))) (least-holds (types v) (rests v) l)
      at (no n) = empty_rests (stage v (rounds v)) (omega (arith, stage_falls (rounds v) rounds-before))

  pub rounds-is : (n : ℕ) → removes v (stage v n) ≡ false → ((m : ℕ) → m < n → removes v (stage v m) ≡ true) → n ≡ rounds v
  unfolding rounds
  rounds-is n e before = at (dec_lt n (types v))
    where
      at : Dec (n < types v) → n ≡ least (rests v) (types v)
      at (yes l) = sym (least-is (types v) (rests v) n l (ap not e) (λ m h. ap not (before m h)))
      at (no g) =
          let same : n ≡ types v = omega (arith, stage_falls n before) in
          same ∙ sym (least_end (types v) (rests v) (λ m h. ap not (before m (omega arith))))

module _ (v : List ℕ) where
  stage-fit : (n t : ℕ) → has (stage v n) t ≡ true → (t < types v) × (satisfies v t ≡ true)
  unfolding stage
  stage-fit =
      stage_keeps v (λ S. (t : ℕ) → has S t ≡ true → (t < types v) × (satisfies v t ≡ true))
      (λ S h t e. h t (round-within v S t e)) (has-table (types v) (satisfies v))

  -- what a round would not remove is served
  rest-serves : (S : List Bool) → removes v S ≡ false → (t : ℕ) → t < types v → has S t ≡ true → served v S t ≡ true
  rest-serves S e t l h =
      not-false (served v S t) (both_rest (has S t) (not (served v S t)) (any_at (goes v S) (types v) e t l) h)

  pub survivors-serving : Serving v (survivors v)
  unfolding survivors
  survivors-serving =
      record {
        small = λ t h. (stage-fit (rounds v) t h).0;
        fit = λ t h. (stage-fit (rounds v) t h).1;
        serves = λ t h. rest-serves (survivors v) (rounds_end v) t (stage-fit (rounds v) t h).0 h;
      }

  serving-survives : (R : List Bool) → Serving v R → Within R (survivors v)
  unfolding stage survivors
  serving-survives R set =
      stage_keeps v (Within R)
      (λ S more t h. table-has (types v) (stays v S) t (set.small t h)
      (both_true (has S t) (served v S t) (more t h) (served_more v R S more t (set.serves t h))))
      (λ t h. table-has (types v) (satisfies v) t (set.small t h) (set.fit t h)) (rounds v)

  pub survivors-largest : Largest v (survivors v)
  survivors-largest = record { serving = survivors-serving; holds_all = serving-survives }

-- There are no more survivors than types.
pub survivors-few : (v : List ℕ) → members (survivors v) ≤ types v
unfolding survivors
survivors-few v = omega (arith, members-bound (survivors v), stage-length v (rounds v))
