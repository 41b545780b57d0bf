-- What reading shows after an addition that succeeded: that addition, after what was shown before.
--   statements-append                  the statements of a list of additions and another
--   grown-accepts, grown-roles, ..     the bytes pass the rows of the vocabulary check, with the same roles and edition
--   term-chain, statement-chain        the chain
--   grown-contents, grown-stated       the records from 1 on, and the statements on the chain
--   empty-accepts, .., empty-stated    the same of an empty vocabulary
-- Assumes nothing.
use Prim.Native.Nat.{ℕ, suc, ◌-◌, ◌≤◌, ◌<◌}
use native.Mathlib.Omega.{arith}
use mathlib.Core.Path.{◌≡◌, refl, sym, ap, ◌∙◌}
use mathlib.Core.Bool.{true}
use mathlib.Core.List.{List, [], ◌∷◌, ◌++◌, map, map-append, append-nil}
use lib.Dec.{eqb}
use borrow.Author.Tests.{le-leb, eq-eqb}
use Rattle.records.specs.Outcome.{pass}
use Rattle.records.specs.Finite.{table}
use Rattle.records.specs.Format.{record_limit, role_limit, record_bytes, record_at, count, first_statement, role_count}
use Rattle.records.specs.Format.{edition, atoms_held}
use Rattle.records.specs.Kinds.{kind_of}
use Rattle.records.specs.Chain.{next_statement, follow, chain}
use Rattle.records.specs.Atoms.{rank, atoms}
use Rattle.records.specs.Check.{header_fits, fields_check, held_fits, vocabulary_rows, IsWellFormed}
use Rattle.records.specs.declared.fields.Record.{Record}
use Rattle.records.proofs.Laws.Lists.{map_same}
use Rattle.records.proofs.Laws.Parts.{record_behind}
use Rattle.records.proofs.Laws.Ranges.{term_no_statement}
use Rattle.records.proofs.Laws.Sets.{table_cong, table_last}
use Rattle.records.proofs.Theorems.Accepted.{AcceptedFacts, rows-accepted, rows-vocabulary}
use Rattle.records.proofs.Theorems.Chains.{chain-statement}
use Rattle.records.proofs.Theorems.Following.{follow_nil}
use Rattle.records.proofs.Theorems.Growth.{Grows, header_alone, grown-count, grows-rows, chain-kept, chain-grown}
use Rattle.writer.specs.Additions.{Addition, term, statement, new_record, grown, shown, contents, stated, statements_of}
use Rattle.writer.specs.Calls.{empty_header, is_addable}
use Rattle.writer.proofs.Theorems.Grown.{grown_grows}
use Rattle.writer.proofs.Theorems.Outcomes.{new-ends}

pub statements-append : (l m : List Addition) → statements_of (l ++ m) ≡ statements_of l ++ statements_of m
unfolding statements_of
statements-append [] m = refl
statements-append (term kind a b ∷ l) m = statements-append l m
statements-append (statement a b ∷ l) m = ap (λ (r : List Addition). statement a b ∷ r) (statements-append l m)

-- a record that was added shows the addition
shown-new : (x : Addition) → is_addable x ≡ true → shown (new_record x) ≡ x
unfolding kind_of
shown-new (term kind a b) is = rw (term_no_statement kind is)
shown-new (statement a b) is = refl

module _ (v : List ℕ) (x : Addition) (accepts : vocabulary_rows v ≡ pass) (few : count v < record_limit)
    (is : is_addable x ≡ true)
    (own : fields_check v (count v) (new_record x) ≡ pass) where
  abbrev w : List ℕ
  w = grown v x

  abbrev well : IsWellFormed v
  well = (rows-accepted v accepts).well

  abbrev good : AcceptedFacts v
  good = rows-vocabulary v accepts

  grows : Grows v w (new_record x)
  grows = grown_grows v good x is

  -- there is a header
  some : 0 < count v
  some = omega (arith, good.sized.least)

  pub grown-accepts : vocabulary_rows w ≡ pass
  grown-accepts = grows-rows v w (new_record x) well few grows (new-ends x) (rows-accepted v accepts).held ∙ own

  pub grown-counted : count w ≡ suc (count v)
  grown-counted = grown-count v w (new_record x) well few grows

  pub grown-roles : role_count w ≡ role_count v
  grown-roles = grows.b 0 some

  pub grown-edition : edition w ≡ edition v
  grown-edition = grows.second 0 some

  shown-kept : (j : ℕ) → 0 < j → j < count v → shown (record_at w j) ≡ shown (record_at v j)
  shown-kept j p h = rw (grows.kind j h, grows.a j p h, grows.b j h)

  shown_last : shown (record_at w (count v)) ≡ x
  shown_last = ap shown grows.new ∙ shown-new x is

  pub grown-contents : contents w ≡ contents v ++ (x ∷ [])
  unfolding contents
  grown-contents =
      let n = count v - 1 in
      let more : count w - 1 ≡ suc n = omega (arith, grown-counted, some) in
      let last : suc n ≡ count v = omega (arith, some) in
      ap (λ (m : ℕ). table m (λ i. shown (record_at w (suc i)))) more
      ∙ table_last n (λ i. shown (record_at w (suc i)))
      ∙ rw (
        table_cong n (λ i. shown (record_at w (suc i))) (λ i. shown (record_at v (suc i)))
            (λ i h. shown-kept (suc i) (omega arith) (omega arith)),
        last,
        shown_last,
      )

  -- the statements that were on the chain show what they did
  chain-shown : map (λ i. shown (record_at w i)) (chain v) ≡ map (λ i. shown (record_at v i)) (chain v)
  chain-shown =
      map_same (λ i. shown (record_at w i)) (λ i. shown (record_at v i)) (chain v)
      (λ i o. let s = chain-statement v good i o in shown-kept i s.later s.within)

-- Of each sort of addition: the chain, and what is stated on it.
module _ (v : List ℕ) (accepts : vocabulary_rows v ≡ pass) (few : count v < record_limit) where
  abbrev formed : IsWellFormed v
  formed = (rows-accepted v accepts).well

  pub term-chain : (kind a b : ℕ) → let x = term kind a b in is_addable x ≡ true → fields_check v (count v) (new_record x) ≡ pass
      → chain (grown v x) ≡ chain v
  term-chain kind a b is own =
      let x = term kind a b in
      chain-kept v (grown v x) (new_record x) formed few (grows v x accepts few is own) (term_no_statement kind is)

  pub statement-chain : (a b : ℕ) → let x = statement a b in fields_check v (count v) (new_record x) ≡ pass
      → chain (grown v x) ≡ chain v ++ (count v ∷ [])
  unfolding kind_of
  statement-chain a b own =
      let x = statement a b in
      chain-grown v (grown v x) (new_record x) formed few (grows v x accepts few refl own) refl refl

  pub grown-stated : (x : Addition) → is_addable x ≡ true → fields_check v (count v) (new_record x) ≡ pass
      → stated (grown v x) ≡ stated v ++ statements_of (x ∷ [])
  unfolding stated statements_of
  grown-stated (term kind a b) is own =
      rw (term-chain kind a b is own) (chain-shown v (term kind a b) accepts few is own ∙ sym (append-nil _))
  grown-stated (statement a b) is own =
      let x = statement a b in
      rw (statement-chain a b own)
      (map-append (λ i. shown (record_at (grown v x) i)) (chain v) (count v ∷ [])
      ∙ rw (chain-shown v x accepts few is own, shown_last v x accepts few is own))

-- An empty vocabulary.
module _ (roles : ℕ) (few : roles ≤ role_limit) where
  abbrev empty : List ℕ
  empty = record_bytes (empty_header roles)

  header : record_at empty 0 ≡ empty_header roles
  header = record_behind [] 0 (empty_header roles) refl

  first : first_statement empty ≡ 0
  first = ap (λ (r : Record). r.a) header

  header_fits_lem : header_fits (record_at empty 0) ≡ true
  header_fits_lem = rw (header, le-leb roles role_limit few)

  pub empty-edition : edition empty ≡ 2
  empty-edition = ap (λ (r : Record). r.second) header

  -- it has no atom, and says so
  empty-atoms : atoms empty ≡ 0
  unfolding rank kind_of
  empty-atoms = rw header

  empty-held : held_fits empty ≡ true
  empty-held =
      let two : eqb (edition empty) 2 ≡ true = eq-eqb (edition empty) 2 empty-edition in
      let zero : atoms_held empty ≡ 0 = ap (λ (r : Record). r.next) header in
      rw two (eq-eqb (atoms_held empty) (atoms empty) (zero ∙ sym empty-atoms))

  pub empty-accepts : vocabulary_rows empty ≡ pass
  unfolding vocabulary_rows
  empty-accepts = rw (header_alone empty refl header_fits_lem first, empty-held)

  pub empty-roles : role_count empty ≡ roles
  empty-roles = ap (λ (r : Record). r.b) header

  pub empty-contents : contents empty ≡ []
  unfolding contents table
  empty-contents = refl

  pub empty-stated : stated empty ≡ []
  unfolding stated
  empty-stated =
      ap (map (λ i. shown (record_at empty i)))
      (ap (follow (next_statement empty) (count empty)) first ∙ follow_nil (next_statement empty) (count empty))
