-- A vocabulary with one record more, and the link that reaches it.
--   relink, Grows                what w has of v: all but the new record, a link and the k of edition 2
--   header_alone                 the smallest vocabulary
--   grown-count                  there is one record more
--   fields_at                    a record's rows refuse at its number
--   fields-same, grown_record    a record's rows look at the records before it, and so do those of the new one
--   atoms-grown                  w has one atom more, if the new record is one
--   grows-rows, grows_check      the rows of the vocabulary check, and the check, of w are those of the new record
--   chain-kept, chain-grown      the chain of w
-- Assumes nothing.
use Prim.Native.Nat.{ℕ, zero, suc, ◌+◌, ◌-◌, ◌*◌, ◌%◌, ◌≤◌, ◌<◌}
use native.Mathlib.Omega.{arith}
use native.Mathlib.Decide.{dec_lt}
use mathlib.Core.Path.{◌≡◌, refl, sym, ap, subst, ◌∙◌}
use mathlib.Core.Bool.{Bool, true, false, cond, not, ◌&&◌, ◌||◌}
use mathlib.Core.List.{List, [], ◌∷◌, ◌++◌}
use mathlib.Core.Logic.{◌⊎◌, inl, inr}
use lib.ListN.{length}
use lib.Dec.{eqb}
use borrow.Author.Tests.{lt-ltb, le-ltb, le-leb, eq-eqb, ne_eqb, eqb-true}
use Rattle.records.specs.Outcome.{accepted, pass, ◌then◌, in_turn}
use Rattle.records.specs.Finite.{digit, occurs, last_or}
use Rattle.records.specs.Format.{record_size, record_limit, record_at, count, first_statement, edition, atoms_held}
use Rattle.records.specs.Kinds.{kind_of, is_atom, is_statement, sorts_of}
use Rattle.records.specs.declared.kinds.Sorts.{Sorts}
use Rattle.records.specs.Atoms.{rank, atoms}
use Rattle.records.specs.Chain.{next_statement, follow, chain, chain_end}
use Rattle.records.specs.Check.{length_check, header_fits, header_check, named, labelled, term_fits, link_fits}
use Rattle.records.specs.Check.{kind_fits, kind_check, row, clear, row_fits, row_check, field_rows, rows_check, fields_check}
use Rattle.records.specs.Check.{record_check, first_statement_check, link_check, links_check, records_check, IsWellFormed}
use Rattle.records.specs.Check.{held_fits, held_check, vocabulary_rows, vocabulary_check}
use Rattle.records.specs.declared.fields.Record.{Record}
use Rattle.records.specs.declared.kinds.Sort.{Sort}
use Rattle.records.specs.declared.kinds.Sort.TheVariants.{Spare, Term, Role, Label, Link}
use Rattle.records.proofs.Laws.Tests.{clash, implies_true}
use Rattle.records.proofs.Laws.Checks.{then_pass, RefusesAt, require_at, then_at, in_rows_at, in_rows-same, turns_pass}
use Rattle.records.proofs.Laws.Checks.{turns_last}
use Rattle.records.proofs.Laws.Search.{any_cong}
use Rattle.records.proofs.Laws.Ranges.{statement_range, statement-kind}
use Rattle.records.proofs.Theorems.Accepted.{AcceptedFacts, IsStatement, Linked, RowsPassed}
use Rattle.records.proofs.Theorems.Accepted.{well_formed_rows, well_formed_vocabulary}
use Rattle.records.proofs.Theorems.Following.{Carried, follow_nil, follow-ends, follow_cong}
use Rattle.records.proofs.Theorems.Following.{follow-linked, last_above}
use Rattle.records.proofs.Theorems.Chains.{end_statement}
use Rattle.records.proofs.Theorems.Ranks.{rank_cong}

-- The link x of record j: to a new statement, where j is the end of the chain; else as it was.
abbrev pub relink : List ℕ → Record → ℕ → ℕ → ℕ
relink v r j x = cond (is_statement r.kind && eqb j (chain_end v)) (count v) x

-- w is v with the record r behind it, the link that reaches it, and an atom counted.
pub record Grows (v w : List ℕ) (r : Record) : Type 0 where
  pub longer : length w ≡ length v + record_size
  pub new : record_at w (count v) ≡ r
  pub kind : (j : ℕ) → j < count v → (record_at w j).kind ≡ (record_at v j).kind
  pub second : (j : ℕ) → j < count v → (record_at w j).second ≡ (record_at v j).second
  pub b : (j : ℕ) → j < count v → (record_at w j).b ≡ (record_at v j).b
  pub a : (j : ℕ) → 0 < j → j < count v → (record_at w j).a ≡ (record_at v j).a
  pub first : first_statement w ≡ relink v r 0 (first_statement v)
  pub next : (j : ℕ) → 0 < j → j < count v → (record_at w j).next ≡ relink v r j (record_at v j).next
  pub held : atoms_held w ≡ cond (eqb (edition v) 2 && is_atom r.kind) (atoms w) (atoms_held v)

-- A header alone is a vocabulary.
pub header_alone : (v : List ℕ) → length v ≡ record_size → header_fits (record_at v 0) ≡ true → first_statement v ≡ 0
    → IsWellFormed v
unfolding records_check in_turn
header_alone v one fits first = rw (one, fits, first)

-- A record's rows refuse at its number.
pub fields_at : (v : List ℕ) (i : ℕ) (r : Record) → RefusesAt i (fields_check v i r)
fields_at v i r =
    let s = sorts_of r.kind in
    then_at i (kind_check r i) (rows_check v i s r) (require_at (kind_fits r) 3 i)
    (in_rows_at i (λ n. row_check v i n s r) (λ n. require_at (row_fits v i n s r) n i) field_rows)

-- A link is for row 8, which is none of them.
link_apart : (n : ℕ) → occurs n field_rows ≡ true → n ≡ row Link → ⊥
unfolding occurs
link_apart n o e = let listed = subst (λ (m : ℕ). occurs m field_rows ≡ true) e o in clash (cc)

module _ (v w : List ℕ) (r : Record) (well : IsWellFormed v) (few : count v < record_limit) (grows : Grows v w r) where
  abbrev good : AcceptedFacts v
  good = well_formed_vocabulary v well

  pub grown-count : count w ≡ suc (count v)
  grown-count = omega (arith, grows.longer)

  -- there is a header
  some : 0 < count v
  some = omega (arith, good.sized.least)

  term-same : (i x : ℕ) → i ≤ count v → term_fits w i x ≡ term_fits v i x
  term-same i x h = at (dec_lt x i)
    where
      at : Dec (x < i) → term_fits w i x ≡ term_fits v i x
      at (yes l) = rw (grows.kind x (omega arith))
      at (no n) = rw (le-ltb x i (omega arith))

  -- labels are the same, of any kind but the header's
  named-same : (kind label j : ℕ) → (16 ≡ kind → ⊥) → j < count v → named w kind label j ≡ named v kind label j
  named-same kind label zero n h = rw (grows.kind 0 some, good.header, ne_eqb 16 kind n)
  named-same kind label (suc j) n h = rw (grows.kind (suc j) h, grows.a (suc j) (omega arith) h)

  labelled-same : (i kind label : ℕ) → (16 ≡ kind → ⊥) → i ≤ count v → labelled w i kind label ≡ labelled v i kind label
  labelled-same i kind label n h =
      any_cong (named w kind label) (named v kind label) i (λ j l. named-same kind label j n (omega arith))

  clear-same : (n i : ℕ) (sort : Sort) (x : ℕ) → occurs n field_rows ≡ true → i ≤ count v
      → clear w i n sort x ≡ clear v i n sort x
  clear-same n i Spare x h l = refl
  clear-same n i Term x h l = rw (term-same i x l)
  clear-same n i Role x h l = rw (grows.b 0 some)
  clear-same n i Label x h l = rw (labelled-same i 3 x (λ e. omega arith) l)
  clear-same n i Link x h l = rw (ne_eqb (row Link) n (λ e. link_apart n h (sym e)))

  row_same : (n i : ℕ) (s : Sorts) (q : Record) → occurs n field_rows ≡ true → i ≤ count v
      → row_fits w i n s q ≡ row_fits v i n s q
  row_same n i s q h l =
      rw (
        clear-same n i s.a q.a h l,
        clear-same n i s.b q.b h l,
        clear-same n i s.next q.next h l,
      )

  pub fields-same : (i : ℕ) (q : Record) → i ≤ count v → fields_check w i q ≡ fields_check v i q
  fields-same i q l =
      let s = sorts_of q.kind in
      rw (in_rows-same (λ n. row_check w i n s q) (λ n. row_check v i n s q) field_rows (λ n h. rw (row_same n i s q h l)))

  -- a link stays, or it leads from the end of the chain to the new statement
  relink_cases : (j x : ℕ) → (relink v r j x ≡ x) ⊎ ((r.kind ≡ 9) × (j ≡ chain_end v) × (relink v r j x ≡ count v))
  relink_cases j x = at (is_statement r.kind) refl (eqb j (chain_end v)) refl
    where
      at : (s : Bool) → is_statement r.kind ≡ s → (e : Bool) → eqb j (chain_end v) ≡ e
          → (cond (s && e) (count v) x ≡ x) ⊎ ((r.kind ≡ 9) × (j ≡ chain_end v) × (cond (s && e) (count v) x ≡ count v))
      at true p true q = inr (statement-kind r.kind p, eqb-true j (chain_end v) q, refl)
      at true p false q = inl refl
      at false p e q = inl refl

  -- rows 4 to 7 have nothing to do with a statement's next
  next-free : (i : ℕ) (p q : Record) → p.kind ≡ q.kind → p.second ≡ q.second → p.a ≡ q.a → p.b ≡ q.b
      → (p.next ≡ q.next) ⊎ (q.kind ≡ 9) → fields_check v i p ≡ fields_check v i q
  unfolding kind_of
  next-free i p q k s a b (inl n) = rw (k, s, a, b, n)
  next-free i p q k s a b (inr n) = rw (k, s, a, b, n)

  record_same : (j : ℕ) → 0 < j → j < count v → record_check w j ≡ record_check v j
  unfolding record_check
  record_same j p h =
      fields-same j (record_at w j) (omega arith)
      ∙ next-free j (record_at w j) (record_at v j) (grows.kind j h) (grows.second j h) (grows.a j p h) (grows.b j h)
      (at (relink_cases j (record_at v j).next))
    where
      at : (relink v r j (record_at v j).next ≡ (record_at v j).next)
          ⊎ ((r.kind ≡ 9) × (j ≡ chain_end v) × (relink v r j (record_at v j).next ≡ count v))
          → ((record_at w j).next ≡ (record_at v j).next) ⊎ ((record_at v j).kind ≡ 9)
      at (inl e) = inl (grows.next j p h ∙ e)
      at (inr e) = inr (subst (IsStatement v) (sym e.1) (end_statement v good (omega (arith, e.1))).target)

  pub grown_record : record_check w (count v) ≡ fields_check v (count v) r
  unfolding record_check
  grown_record = rw grows.new (fields-same (count v) r (omega arith))

  abbrev passed : RowsPassed v
  passed = well_formed_rows v well

  records-grown : in_turn (record_check w) 1 (count w - 1) ≡ fields_check v (count v) r
  records-grown =
      let more : count w - 1 ≡ suc (count v - 1) = omega (arith, grown-count, some) in
      let last : 1 + (count v - 1) ≡ count v = omega (arith, some) in
      let each = turns_pass (record_check w) (count v - 1) 1
      (λ k l h. record_same k l (omega arith) ∙ passed.each k l (omega arith)) in
      ap (λ (n : ℕ). in_turn (record_check w) 1 n) more
      ∙ turns_last (record_check w) (count v - 1) 1
      ∙ rw (each, last) grown_record

  length-grown : length_check w ≡ pass
  length-grown =
      let s = good.sized in
      rw (
        le-leb record_size (length w) (omega (arith, grows.longer)),
        le-leb (length w) (record_size * record_limit) (omega (arith, grows.longer, s.whole)),
        eq-eqb (length w % record_size) 0 (omega (arith, grows.longer, s.whole)),
      )

  header-same : (e : Bool) → eqb (edition v) 2 ≡ e → header_fits (record_at w 0) ≡ header_fits (record_at v 0)
  header-same true q = rw (grows.kind 0 some, grows.second 0 some, grows.b 0 some, q)
  header-same false q =
      let kept : atoms_held w ≡ atoms_held v = grows.held ∙ rw q in
      rw (grows.kind 0 some, grows.second 0 some, grows.b 0 some, kept)

  header-grown : header_check w ≡ pass
  header-grown = rw (header-same (eqb (edition v) 2) refl) passed.header

  pub atoms-grown : atoms w ≡ atoms v + digit (is_atom r.kind)
  unfolding rank
  atoms-grown = rw (grown-count, rank_cong w v (count v) grows.kind, grows.new)

  -- Row 28: an atom is counted, and nothing else is.
  held_grown : held_fits v ≡ true → held_check w ≡ pass
  held_grown h = rw (at (eqb (edition v) 2) refl (is_atom r.kind) refl h)
    where
      at : (e : Bool) → eqb (edition v) 2 ≡ e → (a : Bool) → is_atom r.kind ≡ a
          → (not e || eqb (atoms_held v) (atoms v)) ≡ true → held_fits w ≡ true
      at false q a k f = rw (grows.second 0 some, q)
      at true q true k f =
          let own : atoms_held w ≡ atoms w = grows.held ∙ rw (q, k) in
          rw (grows.second 0 some, q, eq-eqb (atoms_held w) (atoms w) own)
      at true q false k f =
          let kept : atoms_held w ≡ atoms_held v = grows.held ∙ rw (q, k) in
          let same : atoms w ≡ atoms v = atoms-grown ∙ rw k (omega arith) in
          rw (grows.second 0 some, q, kept, same) f

  -- Links of v lead on in w, and so does the new one.
  linked_on : (j x : ℕ) → Linked v j x → Linked w j x
  linked_on j x (inl e) = inl e
  linked_on j x (inr s) =
      inr record {
        later = s.later;
        within = omega (arith, s.within, grown-count);
        target = grows.kind x s.within ∙ s.target;
      }

  linked-new : (j : ℕ) → j < count v → r.kind ≡ 9 → Linked w j (count v)
  linked-new j h k =
      inr record {
        later = h;
        within = omega (arith, grown-count);
        target = ap (λ (q : Record). q.kind) grows.new ∙ k;
      }

  relinked_on : (j x y : ℕ) → j < count v → y ≡ relink v r j x → Linked v j x → Linked w j y
  relinked_on j x y h e l = at (relink_cases j x)
    where
      at : (relink v r j x ≡ x) ⊎ ((r.kind ≡ 9) × (j ≡ chain_end v) × (relink v r j x ≡ count v)) → Linked w j y
      at (inl q) = subst (Linked w j) (sym (e ∙ q)) (linked_on j x l)
      at (inr q) = subst (Linked w j) (sym (e ∙ q.2)) (linked-new j h q.0)

  link_fits_lem : (j x : ℕ) → Linked w j x → link_fits w j x ≡ true
  link_fits_lem j x (inl e) = rw (eq-eqb x 0 e)
  link_fits_lem j x (inr s) =
      rw (
        ne_eqb x 0 (λ e. omega (arith, s.later)),
        lt-ltb j x s.later,
        lt-ltb x (count w) s.within,
        statement_range (record_at w x).kind,
        eq-eqb (record_at w x).kind 9 s.target,
      )

  first-grown : first_statement_check w ≡ pass
  first-grown =
      rw (link_fits_lem 0 (first_statement w)
      (relinked_on 0 (first_statement v) (first_statement w) some grows.first good.first))

  module _ (ends : r.next ≡ 0) where
    next-linked : (j : ℕ) → 0 < j → j < count w → (record_at w j).kind ≡ 9 → Linked w j (record_at w j).next
    next-linked j p h k = at (dec_lt j (count v))
      where
        at : Dec (j < count v) → Linked w j (record_at w j).next
        at (yes l) =
            relinked_on j (record_at v j).next (record_at w j).next l (grows.next j p l)
            (good.rises j p l (sym (grows.kind j l) ∙ k))
        at (no n) =
            let here : j ≡ count v = omega (arith, grown-count) in
            inl (ap (λ (i : ℕ). (record_at w i).next) here ∙ ap (λ (q : Record). q.next) grows.new ∙ ends)

    link_grown : (j : ℕ) → 0 < j → j < count w → link_check w j ≡ pass
    unfolding link_check
    link_grown j p h =
        rw (implies_true (is_statement (record_at w j).kind) (link_fits w j (record_at w j).next)
        (λ k. link_fits_lem j (record_at w j).next (next-linked j p h (statement-kind (record_at w j).kind k))))

    links_grown : links_check w ≡ pass
    links_grown =
        rw first-grown (turns_pass (link_check w) (count w - 1) 1
        (λ k l h. link_grown k l (omega (arith, grown-count))))

    grows-records : records_check w ≡ fields_check v (count v) r
    unfolding records_check
    grows-records =
        rw (length-grown, header-grown, records-grown, links_grown) (then_pass (fields_check v (count v) r))

    -- Of w nothing but the new record is left to check.
    module _ (held : held_fits v ≡ true) where
      pub grows-rows : vocabulary_rows w ≡ fields_check v (count v) r
      unfolding vocabulary_rows
      grows-rows = rw (grows-records, held_grown held) (then_pass (fields_check v (count v) r))

      pub grows_check : vocabulary_check w ≡ (fields_check v (count v) r then accepted (suc (count v)))
      unfolding vocabulary_check
      grows_check = rw (grows-rows, grown-count)

  -- The chain, where the new record is no statement.
  pub chain-kept : is_statement r.kind ≡ false → chain w ≡ chain v
  chain-kept none =
      let first : first_statement w ≡ first_statement v = grows.first ∙ rw none in
      let same : (j : ℕ) → 0 < j → j < count v → IsStatement v j → next_statement w j ≡ next_statement v j
      = λ j p h k. grows.next j p h ∙ rw none in
      rw (first, grown-count)
      (follow_cong (next_statement v) (IsStatement v) (count v) good.rises (next_statement w) same (suc (count v)) 0
      (first_statement v) good.first
      ∙ follow-ends (next_statement v) (IsStatement v) (count v) good.rises (suc (count v)) (first_statement v) good.first
      (omega arith))

  -- The chain, where it is one: the new statement stands at its end.
  module _ (ends : r.next ≡ 0) (is : is_statement r.kind ≡ true) where
    next-same : (j : ℕ) → 0 < j → j < count v → IsStatement v j → (j ≡ chain_end v → ⊥) → next_statement w j ≡ next_statement v j
    next-same j p h k n = grows.next j p h ∙ rw (is, ne_eqb j (chain_end v) n)

    next-new : 0 < chain_end v → next_statement w (chain_end v) ≡ count v
    next-new p =
        grows.next (chain_end v) p (end_statement v good p).within ∙ rw (is, eq-eqb (chain_end v) (chain_end v) refl)

    first_carried : Linked v 0 (first_statement v) → Carried (next_statement v) (IsStatement v) (count v) good.rises (count v)
        (first_statement v) (first_statement w)
    unfolding last_or
    first_carried (inl e) =
        let none : chain_end v ≡ 0
        = ap (last_or 0) (ap (follow (next_statement v) (count v)) e ∙ follow_nil (next_statement v) (count v)) in
        inl (e, grows.first ∙ rw (is, eq-eqb 0 (chain_end v) (sym none)))
    first_carried (inr s) =
        let above = last_above (next_statement v) (IsStatement v) (count v) good.rises (count v) 0 (first_statement v) s some in
        inr (s.later, grows.first ∙ rw (is, ne_eqb 0 (chain_end v) (λ e. omega arith)))

    pub chain-grown : chain w ≡ chain v ++ (count v ∷ [])
    chain-grown =
        ap (λ (n : ℕ). follow (next_statement w) n (first_statement w)) grown-count
        ∙ follow-linked (next_statement v) (IsStatement v) (count v) good.rises (next_statement w) (count v) (chain_end v) some
        (ap (λ (q : Record). q.next) grows.new ∙ ends) next-same next-new (first_statement v) (first_statement w)
        good.first refl (first_carried good.first)
