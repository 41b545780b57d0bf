-- A vocabulary in another edition: it is accepted where the vocabulary is, and differs from it in edition alone.
--   fields_alike, well_alike   rows 3 to 8 do not look at what differs; so of rows 1 to 8 the header's row is left
--   convert_differs            only edition and k change
--   convert_edition            the edition is the one asked for
--   convert_accepted           the theorem
-- Assumes nothing.
use Prim.Native.Nat.{ℕ, ◌-◌, ◌≤◌, ◌<◌}
use native.Mathlib.Omega.{arith}
use native.Mathlib.Decide.{dec_lt}
use mathlib.Core.Path.{◌≡◌, refl, sym, ap, ◌∙◌}
use mathlib.Core.Bool.{true, cond, ◌&&◌, ◌||◌}
use mathlib.Core.List.{List, [], ◌∷◌}
use mathlib.Core.Logic.{◌⊎◌, inl, inr}
use lib.ListN.{length, get_or}
use lib.Dec.{leb, eqb}
use borrow.Author.Tests.{le-leb, eq-eqb}
use Rattle.records.specs.Outcome.{accepted, pass, in_turn}
use Rattle.records.specs.Finite.{put}
use Rattle.records.specs.Format.{record_size, role_limit, place_of_next, word_bytes, record_at, count, first_statement}
use Rattle.records.specs.Format.{role_count}
use Rattle.records.specs.Format.{edition, atoms_held}
use Rattle.records.specs.Atoms.{atoms}
use Rattle.records.specs.Check.{named, labelled, sort_fits, row_fits, row_check, field_rows, fields_check, record_check}
use Rattle.records.specs.Check.{link_check}
use Rattle.records.specs.Check.{length_check, first_statement_check, header_fits, records_check, held_fits, vocabulary_rows}
use Rattle.records.specs.Check.{vocabulary_check, IsWellFormed}
use Rattle.records.specs.Kinds.{sorts_of}
use Rattle.records.specs.declared.fields.Record.{Record}
use Rattle.records.specs.declared.kinds.Sort.{Sort}
use Rattle.records.specs.declared.kinds.Sort.TheVariants.{Spare, Term, Role, Label, Link}
use Rattle.records.proofs.Laws.Checks.{in_rows-same, turns_pass}
use Rattle.records.proofs.Laws.Parts.{put-length, put-before, put-inside, put_behind, pair_off, record_bytes_lem, held-read}
use Rattle.records.proofs.Laws.Search.{any_cong}
use Rattle.records.proofs.Theorems.Accepted.{AcceptedFacts, RowsPassed, well_formed_rows, accepted_well_formed}
use Rattle.records.proofs.Theorems.Accepted.{accepted-vocabulary}
use Rattle.records.proofs.Theorems.Bounds.{vocabulary-count}
use Rattle.alike.specs.Editions.{DifferInEdition, in_edition}
use Rattle.alike.proofs.Theorems.Truth.{atoms_alike}
use Rattle.alike.proofs.Theorems.Editions.{kind_alike, a_alike, b_alike, record_alike, count_alike, editions_alike}
use Rattle.records.specs.declared.kinds.Sorts.{Sorts}

module _ (v w : List ℕ) (differ : DifferInEdition v w) where
  label_alike : (i kind label : ℕ) → labelled w i kind label ≡ labelled v i kind label
  label_alike i kind label =
      any_cong (named w kind label) (named v kind label) i
      (λ j h. rw (← kind_alike v w differ j, ← a_alike v w differ j))

  sort_alike : (i : ℕ) (sort : Sort) (x : ℕ) → sort_fits w i sort x ≡ sort_fits v i sort x
  sort_alike i Spare x = refl
  sort_alike i Term x = rw (← kind_alike v w differ x)
  sort_alike i Role x = rw (← b_alike v w differ 0)
  sort_alike i Label x = rw (label_alike i 3 x)
  sort_alike i Link x = rw (← kind_alike v w differ x, ← count_alike v w differ)

  row_alike : (n i : ℕ) (s : Sorts) (r : Record) → row_fits w i n s r ≡ row_fits v i n s r
  row_alike n i s r = rw (sort_alike i s.a r.a, sort_alike i s.b r.b, sort_alike i s.next r.next)

  fields_alike : (i : ℕ) (r : Record) → fields_check w i r ≡ fields_check v i r
  fields_alike i r =
      let s = sorts_of r.kind in
      rw (in_rows-same (λ n. row_check w i n s r) (λ n. row_check v i n s r) field_rows (λ n h. rw (row_alike n i s r)))

  record_passes : (i : ℕ) → 0 < i → record_check w i ≡ record_check v i
  unfolding record_check
  record_passes i p = ap (fields_check w i) (sym (record_alike v w differ i p)) ∙ fields_alike i (record_at v i)

  link_passes : (i : ℕ) → 0 < i → link_check w i ≡ link_check v i
  unfolding link_check
  link_passes i p = rw (← record_alike v w differ i p, sort_alike i Link (record_at v i).next)

  module _ (well : IsWellFormed v) where
    abbrev passed : RowsPassed v
    passed = well_formed_rows v well

    long : length_check w ≡ pass
    long = rw (← differ.size) passed.length

    first : first_statement_check w ≡ pass
    first = rw (← a_alike v w differ 0, sort_alike 0 Link (first_statement v)) passed.first

    records : in_turn (record_check w) 1 (count w - 1) ≡ pass
    records =
        turns_pass (record_check w) (count w - 1) 1
        (λ k l h. record_passes k l ∙ passed.each k l (omega (arith, count_alike v w differ)))

    links : in_turn (link_check w) 1 (count w - 1) ≡ pass
    links =
        turns_pass (link_check w) (count w - 1) 1
        (λ k l h. link_passes k l ∙ passed.links k l (omega (arith, count_alike v w differ)))

    pub well_alike : header_fits (record_at w 0) ≡ true → IsWellFormed w
    unfolding records_check
    well_alike fits = rw (long, fits, records, first, links)

module _ (v : List ℕ) (e : ℕ) (header : record_size ≤ length v) where
  abbrev u : List ℕ
  u = put v 1 (e ∷ [])

  abbrev k : ℕ
  k = cond (eqb e 2) (atoms v) 0

  abbrev w : List ℕ
  w = in_edition e v

  long_first : length u ≡ length v
  long_first = put-length v 1 (e ∷ []) (omega arith)

  first_off : (i : ℕ) → (i ≡ 1 → ⊥) → get_or u i 0 ≡ get_or v i 0
  first_off i n = at (dec_lt i 1)
    where
      at : Dec (i < 1) → get_or u i 0 ≡ get_or v i 0
      at (yes h) = put-before v 1 (e ∷ []) (omega arith) 0 i h
      at (no h) = put_behind v 1 (e ∷ []) (omega arith) 0 i (omega arith)

  second_off : (i : ℕ) → (i < place_of_next) ⊎ (record_size ≤ i) → get_or w i 0 ≡ get_or u i 0
  second_off i (inl h) = pair_off u place_of_next k (omega (arith, long_first)) i (λ q. omega arith) (λ q. omega arith)
  second_off i (inr h) = pair_off u place_of_next k (omega (arith, long_first)) i (λ q. omega arith) (λ q. omega arith)

  pub convert_differs : DifferInEdition v w
  convert_differs =
      record {
        size = sym (put-length u place_of_next (word_bytes k) (omega (arith, long_first)) ∙ long_first);
        same = λ i off. sym (second_off i off.1 ∙ first_off i off.0);
      }

  pub convert_edition : edition w ≡ e
  convert_edition =
      ap (λ (r : Record). r.second) (record_bytes_lem w 0)
      ∙ second_off 1 (inl (omega arith))
      ∙ put-inside v 1 (e ∷ []) (omega arith) 0 0 (omega arith)

  convert_held : atoms_held w ≡ k
  convert_held = held-read u k (omega (arith, long_first))

-- The theorem.
module _ (v : List ℕ) (n : ℕ) (accepts : vocabulary_check v ≡ accepted n) where
  abbrev good : AcceptedFacts v
  good = accepted-vocabulary v n accepts

  abbrev least : record_size ≤ length v
  least = good.sized.least

  -- the rows that look at the edition
  header_row_lem : (e : ℕ) → (e ≡ 1) ⊎ (e ≡ 2) → header_fits (record_at (in_edition e v) 0) ≡ true
  header_row_lem e is =
      let w = in_edition e v in
      let differ = convert_differs v e least in
      let kind : eqb (record_at w 0).kind 16 ≡ true = eq-eqb _ 16 (sym (kind_alike v w differ 0) ∙ good.header) in
      let roles : leb (role_count w) role_limit ≡ true
      = ap (λ (b : ℕ). leb b role_limit) (sym (b_alike v w differ 0)) ∙ le-leb (role_count v) role_limit good.roles in
      rw (kind, roles) (at is)
    where
      at : (e ≡ 1) ⊎ (e ≡ 2)
          → (eqb (edition (in_edition e v)) 2 || (eqb (edition (in_edition e v)) 1 && eqb (atoms_held (in_edition e v)) 0)) ≡ true
      at (inl one) = rw (convert_edition v e least, convert_held v e least, one)
      at (inr two) = rw (convert_edition v e least, two)

  held-row : (e : ℕ) → (e ≡ 1) ⊎ (e ≡ 2) → held_fits (in_edition e v) ≡ true
  held-row e (inl one) = rw (convert_edition v e least, one)
  held-row e (inr two) =
      let w = in_edition e v in
      let second : eqb (edition w) 2 ≡ true = eq-eqb (edition w) 2 (convert_edition v e least ∙ two) in
      let all : cond (eqb e 2) (atoms v) 0 ≡ atoms v = rw (eq-eqb e 2 two) in
      let same = convert_held v e least ∙ all ∙ atoms_alike v w (editions_alike v w (convert_differs v e least)) in
      rw second (eq-eqb (atoms_held w) (atoms w) same)

  pub convert_accepted : (e : ℕ) → (e ≡ 1) ⊎ (e ≡ 2) → vocabulary_check (in_edition e v) ≡ accepted n
  unfolding vocabulary_check vocabulary_rows
  convert_accepted e is =
      let w = in_edition e v in
      let differ = convert_differs v e least in
      let well = well_alike v w differ (accepted_well_formed v n accepts) (header_row_lem e is) in
      rw (well, held-row e is, ← count_alike v w differ, ← vocabulary-count v n accepts)
