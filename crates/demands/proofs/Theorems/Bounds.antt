-- Bounds on what the calls answer, from their tables: what a caller needs to pack an answer into a word.
--   Near, Small, SmallVerdict, SmallCounts   a refusal, and an answer, whose numbers are small
--   AllNear, near_append, near_turns         each row is near: of more rows, and of rows in turn
--   Bounded, near_bounded, bounded_append    each row that is reached is near
--   refusal_near, small                      so a refusal is near, and with a small value the answer small
--   vocabulary-small, record_small           the count or place is at most 512; the offset or place 4,096 or the number
--   most, comparison-small                   the verdict's numbers are at most 2^12
--   classification-small                     the counts are at most 2^12, the place 512
--   most_place, script_small                  the steps or place are at most 2,048, or a number of the query
--   making-small, addition-small             the new length is at most 4,096
-- Assumes nothing.
use Prim.Native.Nat.{ℕ, zero, suc, ◌+◌, ◌-◌, ◌*◌, ◌≤◌, ◌<◌, max}
use native.Mathlib.Omega.{arith}
use mathlib.Core.Path.{◌≡◌, refl}
use mathlib.Core.Bool.{Bool, true, false, not, ◌&&◌}
use mathlib.Core.List.{List, [], ◌∷◌, ◌++◌, tail}
use lib.ListN.{length, take}
use lib.Seq.{length-take-le}
use lib.Dec.{ltb, leb}
use borrow.Author.Tests.{ltb-true, leb-true, not-false}
use Rattle.records.specs.Outcome.{Outcome, Check, accepted, refused, ◌then◌, require}
use Rattle.records.specs.Format.{record_size, record_limit, count}
use Rattle.records.specs.Check.{length_fits, vocabulary_check}
use Rattle.records.specs.Call.{record_call}
use Rattle.records.specs.Atoms.{atoms}
use Rattle.records.proofs.Laws.Tests.{clash, both_left}
use Rattle.records.proofs.Theorems.Accepted.{Sized, length_passed}
use Rattle.records.proofs.Laws.Checks.{require_passed}
use Rattle.records.proofs.Laws.Lists.{All}
use Rattle.records.proofs.Theorems.Ranks.{rank-bound}
use Rattle.writer.specs.Additions.{Addition, grown}
use Rattle.writer.specs.Calls.{making, adding, new_length}
use Rattle.types.specs.declared.answers.Counts.{Counts}
use Rattle.types.specs.Comparison.{Verdict, equal, different, type_limit, comparison}
use Rattle.types.proofs.Theorems.Survivors.{types-bound, rounds-bound, survivors-serving, survivors-few}
use Rattle.types.proofs.Theorems.Verdicts as verdicts
use Rattle.types.proofs.Theorems.Comparison.{verdict_tally, different-first}
use Rattle.taxonomy.specs.Taxonomy.{classification}
use Rattle.taxonomy.proofs.Theorems.Answers.{answered}
use Rattle.scripts.specs.Format.{entry_limit, entries, query_of, first_step, chain}
use Rattle.scripts.specs.Form as script
use Rattle.scripts.specs.Run.{script_check}
use Rattle.scripts.proofs.Theorems.Form.{OnChain, KeepsForm, length-sized, keeps_form, chain_ahead, chain-few}
use Rattle.demands.specs.Table.{Row, row, rows_in_turn, record_rows, next_rows, records_table, held_row, vocabulary_table}
use Rattle.demands.specs.Table.{record_table, term_row}
use Rattle.demands.specs.Table.{comparison_table, classification_table, entry_rows, first_step_row, next_step_rows, form_table}
use Rattle.demands.specs.Table.{making_table, room_row, addable_row, addition_table}
use Rattle.demands.specs.Table.{OpenFrames, frames_after, step_rows, later_rows, chain_table, NoneApplies, Refuses, Follows}
use Rattle.demands.proofs.Laws.Rows.{first, row_passed, refuses_first}
use Rattle.demands.proofs.Theorems.Tables.{form_passed, vocabulary_follows, record_follows, comparison_follows}
use Rattle.demands.proofs.Theorems.Tables.{classification_follows, script_follows, making_follows, addition_follows}

-- A refusal's number is not 0 and fits a byte, and its place is at most m.
abbrev pub Near : ℕ → ℕ → ℕ → Type 0
Near m n p = (0 < n) × (n < 256) × (p ≤ m)

-- An outcome whose value is at most m, or whose refusal is near.
abbrev pub Small : ℕ → Outcome ℕ → Type 0
Small m (accepted x) = x ≤ m
Small m (refused n p) = Near m n p

-- A verdict whose numbers are at most 2^12, or a refusal that is near.
abbrev pub SmallVerdict : ℕ → Outcome Verdict → Type 0
SmallVerdict m (accepted (equal s n)) = (s ≤ type_limit) × (n ≤ type_limit)
SmallVerdict m (accepted (different t s n)) = (t < type_limit) × (s ≤ type_limit) × (n ≤ type_limit)
SmallVerdict m (refused n p) = Near m n p

-- Counts that are at most 2^12, or a refusal that is near.
abbrev pub SmallCounts : ℕ → Outcome Counts → Type 0
SmallCounts m (accepted c) = (c.survivors ≤ type_limit) × (c.rounds ≤ type_limit)
SmallCounts m (refused n p) = Near m n p

-- Each row is near; each row that is reached is near.
abbrev AllNear : ℕ → List Row → Type 0
AllNear m rows = All (λ r. Near m r.number r.place) rows

abbrev Bounded : ℕ → List Row → Type 0
Bounded m [] = Unit {0}
Bounded m (r ∷ rows) = Near m r.number r.place × (r.applies ≡ false → Bounded m rows)

-- row 1
measured : (v : List ℕ) → not (length_fits v) ≡ false → Sized v
measured v q = length_passed v (row_passed (length_fits v) 1 0 q)

-- row 13
few-entries : (s : List ℕ) → not (script.length_fits s) ≡ false → entries s ≤ entry_limit
few-entries s q = omega (arith, (length-sized s (row_passed (script.length_fits s) 13 0 q)).most)

none_right : (xs ys : List Row) → NoneApplies (xs ++ ys) → NoneApplies ys
none_right [] ys h = h
none_right (r ∷ xs) ys h = none_right xs ys h.1

none_left : (xs ys : List Row) → NoneApplies (xs ++ ys) → NoneApplies xs
none_left [] ys h = tt
none_left (r ∷ xs) ys h = (h.0, none_left xs ys h.1)

module _ (m : ℕ) where
  near_append : (xs ys : List Row) → AllNear m xs → AllNear m ys → AllNear m (xs ++ ys)
  near_append [] ys h k = k
  near_append (r ∷ xs) ys h k = (h.0, near_append xs ys h.1 k)

  near_turns : (rows : ℕ → List Row) (n i : ℕ) → i + n ≤ m → ((k : ℕ) → k ≤ m → AllNear m (rows k))
      → AllNear m (rows_in_turn rows i n)
  unfolding rows_in_turn
  near_turns rows zero i h each = tt
  near_turns rows (suc n) i h each =
      near_append (rows i) (rows_in_turn rows (suc i) n) (each i (omega arith)) (near_turns rows n (suc i) (omega arith) each)

  near_bounded : (rows : List Row) → AllNear m rows → Bounded m rows
  near_bounded [] h = tt
  near_bounded (r ∷ rows) h = (h.0, λ _. near_bounded rows h.1)

  bounded_append : (xs ys : List Row) → Bounded m xs → (NoneApplies xs → Bounded m ys) → Bounded m (xs ++ ys)
  bounded_append [] ys h k = k tt
  bounded_append (r ∷ xs) ys h k = (h.0, λ q. bounded_append xs ys (h.1 q) (λ none. k (q, none)))

  first_near : (rows : List Row) (n p : ℕ) → Bounded m rows → first rows ≡ refused n p → Near m n p
  first_near [] n p h e = absurd (clash (cc))
  first_near (r ∷ rows) n p h e = at r.applies refl e (λ q. first_near rows n p (h.1 q))
    where
      at : (b : Bool) → r.applies ≡ b → (require (not b) r.number r.place then first rows) ≡ refused n p
          → (r.applies ≡ false → first rows ≡ refused n p → Near m n p) → Near m n p
      at false q k more = more q k
      at true q k more =
          let same : ◌≡◌ {A = Check} (refused r.number r.place) (refused n p) = k in
          let number : r.number ≡ n = cc in
          let place : r.place ≡ p = cc in
          omega (arith, h.0)

  refusal_near : (rows : List Row) (n p : ℕ) → Bounded m rows → Refuses rows n p → Near m n p
  refusal_near rows n p h r = first_near rows n p h (refuses_first rows n p r)

  small : {rows : List Row} {value : ℕ} {answer : Outcome ℕ} → Follows rows value answer → Bounded m rows
      → (NoneApplies rows → value ≤ m) → Small m answer
  small {rows} {value} {answer = accepted x} f h k = let w = f.accepted_only x refl in omega (arith, k w.0, w.1)
  small {rows} {value} {answer = refused n p} f h k = refusal_near rows n p h (f.refused_only n p refl)

  -- the rows after 1, where the length is as it should be
  records_near : record_limit ≤ m → (v : List ℕ) → Sized v → AllNear m (tail (records_table v))
  records_near large v sized =
      let turns = near_turns (record_rows v) (count v - 1) 1 (omega arith) (λ i h. omega arith) in
      let links = near_turns (next_rows v) (count v - 1) 1 (omega arith) (λ i h. omega arith) in
      (omega arith, near_append (rows_in_turn (record_rows v) 1 (count v - 1)) _ turns (omega arith, links))

  -- there are no more atoms than records
  vocabulary_near : record_limit ≤ m → (v : List ℕ) → Sized v → AllNear m (tail (vocabulary_table v))
  vocabulary_near large v sized =
      near_append (tail (records_table v)) (held_row v ∷ []) (records_near large v sized)
      (omega (arith, rank-bound v (count v), sized.most))

  vocabulary_bounded : record_limit ≤ m → (v : List ℕ) → Bounded m (vocabulary_table v)
  vocabulary_bounded large v =
      (omega arith, λ q. near_bounded (tail (vocabulary_table v)) (vocabulary_near large v (measured v q)))

  -- a script has few records, and its query's numbers are small
  module _ (v s : List ℕ) (large : entry_limit ≤ m) (a : (query_of s).a ≤ m) (b : (query_of s).b ≤ m) where
    form_near : entries s ≤ entry_limit → AllNear m (tail (form_table v s))
    form_near few =
        let turns = near_turns (entry_rows v s) (entries s - 1) 1 (omega arith) (λ i h. omega arith) in
        let links = near_turns (next_step_rows s) (entries s - 1) 1 (omega arith) (λ i h. omega arith) in
        let entered = rows_in_turn (entry_rows v s) 1 (entries s - 1) in
        let linked = first_step_row s ∷ rows_in_turn (next_step_rows s) 1 (entries s - 1) in
        let rest = near_append entered linked turns (omega arith, links) in
        (omega arith, (omega arith, (omega arith, (omega arith, rest))))

    form_bounded : Bounded m (form_table v s)
    form_bounded = (omega arith, λ q. near_bounded (tail (form_table v s)) (form_near (few-entries s q)))

  module _ (v s : List ℕ) where
    later_near : (is : List ℕ) (frames : OpenFrames v s) (last : ℕ) → last ≤ m → All (λ i. i ≤ m) is
        → AllNear m (later_rows v s frames last is)
    unfolding later_rows
    later_near [] frames last h all = omega arith
    later_near (i ∷ is) frames last h all =
        let next = frames_after v s frames i in
        near_append (step_rows v s frames i) (later_rows v s next i is) (omega (arith, all.0))
        (later_near is next i all.0 all.1)

    chain_near : (is : List ℕ) → All (λ i. i ≤ m) is → AllNear m (chain_table v s is)
    unfolding chain_table
    chain_near [] all = omega arith
    chain_near (i ∷ is) all = (omega (arith, all.0), later_near is (frames_after v s [] i) i all.0 all.1)

pub vocabulary-small : (v : List ℕ) → Small record_limit (vocabulary_check v)
vocabulary-small v =
    small record_limit (vocabulary_follows v) (vocabulary_bounded record_limit (omega arith) v)
    (λ none. let sized = measured v none.0 in omega arith)

pub record_small : (v : List ℕ) (n : ℕ) → Small (max (record_size * record_limit) n) (record_call v n)
record_small v n =
    let m = max (record_size * record_limit) n in
    small m (record_follows v n) (near_bounded m (record_table v n) (omega arith))
    (λ none.
    let sized = measured v none.0 in
    let below = ltb-true n (count v) (require_passed (ltb n (count v)) 9 n (row_passed (ltb n (count v)) 9 n none.1.0)) in
    omega arith)

module _ (v : List ℕ) (a b lent : ℕ) where
  abbrev pub most : ℕ
  most = max record_limit (max a b)

  answer-small : (x : Verdict) → comparison v a b lent ≡ accepted x → SmallVerdict most (accepted x)
  answer-small (equal s n) e =
      let few = types-bound v (verdicts.answered v a b lent (equal s n) e).few in
      let c = verdict_tally v a b lent (equal s n) e in
      (omega (arith, c.0, survivors-few v), omega (arith, c.2))
  answer-small (different t s n) e =
      let few = types-bound v (verdicts.answered v a b lent (different t s n) e).few in
      let c = verdict_tally v a b lent (different t s n) e in
      let first = different-first v a b lent t s n e in (
        omega (arith, (survivors-serving v).small t first.0),
        omega (arith, c.0, survivors-few v),
        omega (arith, c.2),
      )

  comparison_bounded : Bounded most (comparison_table v a b lent)
  comparison_bounded =
      bounded_append most (vocabulary_table v) _ (vocabulary_bounded most (omega arith) v) (λ none.
      let sized = measured v none.0 in
      near_bounded most (term_row v a ∷ term_row v b ∷ row 11 (atoms v) _ ∷ row 12 0 _ ∷ [])
      (omega (arith, rank-bound v (count v))))

  pub comparison-small : SmallVerdict most (comparison v a b lent)
  comparison-small = at (comparison v a b lent) refl
    where
      at : (o : Outcome Verdict) → comparison v a b lent ≡ o → SmallVerdict most o
      at (accepted x) e = answer-small x e
      at (refused n p) e =
          refusal_near most (comparison_table v a b lent) n p comparison_bounded
          ((comparison_follows v a b lent).refused_only n p e)

module _ (v : List ℕ) (lent room : ℕ) where
  classification_bounded : Bounded record_limit (classification_table v lent room)
  classification_bounded =
      bounded_append record_limit (vocabulary_table v) _ (vocabulary_bounded record_limit (omega arith) v) (λ none.
      let sized = measured v none.0 in
      near_bounded record_limit (row 11 (atoms v) _ ∷ row 12 0 _ ∷ row 26 0 _ ∷ []) (omega (arith, rank-bound v (count v))))

  pub classification-small : SmallCounts record_limit (classification v lent room)
  classification-small = at (classification v lent room) refl
    where
      at : (o : Outcome Counts) → classification v lent room ≡ o → SmallCounts record_limit o
      at (accepted c) e =
          let a = answered v lent room c e in
          let few = types-bound v a.few in
          (rw a.answer (omega (arith, survivors-few v)), rw a.answer (omega (arith, rounds-bound v)))
      at (refused n p) e =
          refusal_near record_limit (classification_table v lent room) n p classification_bounded
          ((classification_follows v lent room).refused_only n p e)

-- A script has at most 2,048 records, a vocabulary 512; row 10's place is a number of the query.
abbrev pub most_place : List ℕ → ℕ
most_place s = max entry_limit (max (query_of s).a (query_of s).b)

-- numbers of the chain of a script that keeps the form
chain-within : (m : ℕ) (s : List ℕ) (is : List ℕ) → entries s ≤ m → All (OnChain s) is → All (λ i. i ≤ m) is
chain-within m s [] h a = tt
chain-within m s (i ∷ is) h a = (omega (arith, a.0.within), chain-within m s is h a.1)

-- where no row of the form applies
kept-form : (v s : List ℕ) → NoneApplies (vocabulary_table v ++ form_table v s) → KeepsForm v s
kept-form v s none =
    keeps_form v s (form_passed v s (none_right (vocabulary_table v) (form_table v s) none))

pub script_small : (v s : List ℕ) → Small (most_place s) (script_check v s)
script_small v s =
    let m = most_place s in
    let begun = vocabulary_table v ++ form_table v s in
    let form = form_bounded m v s (omega arith) (omega arith) (omega arith) in
    let rows = bounded_append m (vocabulary_table v) _ (vocabulary_bounded m (omega arith) v) (λ _. form) in
    small m (script_follows v s)
    (bounded_append m begun _ rows (λ none.
    let f = kept-form v s none in
    let chained = chain-within m s (chain s) (omega (arith, f.sized.most)) (chain_ahead v s f) in
    near_bounded m (chain_table v s (chain s)) (chain_near m v s (chain s) chained)))
    (λ none. omega (arith, (kept-form v s (none_left begun _ none)).sized.most, chain-few s (first_step s)))

pub making-small : (size roles : ℕ) → Small (record_size * record_limit) (new_length (making size roles))
making-small size roles =
    let m = record_size * record_limit in
    small m (making_follows size roles) (near_bounded m (making_table size roles) (omega arith)) (λ none. omega arith)

module _ (buffer : List ℕ) (used : ℕ) (x : Addition) where
  abbrev in_use : List ℕ
  in_use = take used buffer

  abbrev length_limit : ℕ
  length_limit = record_size * record_limit

  -- the rows of the new record, and those before them
  abbrev new_rows : List Row
  new_rows =
      room_row in_use (length buffer) ∷ addable_row in_use x ∷ record_rows (grown in_use x) (count in_use)

  addition_bounded : Bounded length_limit (addition_table buffer used x)
  addition_bounded = (
    omega arith,
    λ q. bounded_append length_limit (vocabulary_table in_use) new_rows (vocabulary_bounded length_limit (omega arith) in_use)
        (λ none. let sized = measured in_use none.0 in near_bounded length_limit new_rows (omega arith)),
  )

  -- an accepted vocabulary of less than 512 records, and one record more
  added-few : NoneApplies (addition_table buffer used x) → used + record_size ≤ length_limit
  added-few none =
      let sized = measured in_use (none_left (vocabulary_table in_use) new_rows none.1).0 in
      let roomy = (none_right (vocabulary_table in_use) new_rows none.1).0 in
      let fits = not-false (ltb (count in_use) record_limit && leb (length in_use + record_size) (length buffer)) roomy in
      let few = ltb-true (count in_use) record_limit
      (both_left (ltb (count in_use) record_limit) (leb (length in_use + record_size) (length buffer)) fits) in
      let within = leb-true used (length buffer) (not-false (leb used (length buffer)) none.0) in
      omega (arith, length-take-le used buffer within)

  pub addition-small : Small length_limit (new_length (adding buffer used x))
  addition-small = small length_limit (addition_follows buffer used x) addition_bounded added-few
