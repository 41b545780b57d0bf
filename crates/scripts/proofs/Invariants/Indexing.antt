-- The index of terms, record by record.
--   blank_tables                                tables of zeros
--   FunctionTerm, function-term                 a function term that was read
--   entered-before                              the origin of a record that was entered
--   number_code, number-origin, number-second   what the table tells of a term record, and of the term for y
--   terms_coded, codes_termed                   equal terms have equal codes, and the other way round
--   code_inner                                  the code of a function term
--   index_other, index_known, index_new         one record further: no function term; one whose origin is known; a new origin
--   index_entered, index_start                  a function term that was entered; the tables as they come
-- Assumes nothing.
use Prim.Native.Nat.{ℕ, ◌+◌, ◌*◌, ◌/◌, ◌%◌, ◌≤◌, ◌<◌}
use native.Mathlib.Omega.{arith}
use native.Mathlib.Decide.{ℕ_discrete}
use mathlib.Core.Path.{◌≡◌, refl, sym, ap, subst, ◌∙◌}
use mathlib.Core.List.{List}
use mathlib.Core.Logic.{◌⊎◌, inl, inr}
use lib.ListN.{length, get_or, set, replicate, length-set, length-replicate}
use lib.Seq.{get_or-set_same, get_or-set_other}
use Rattle.records.proofs.Laws.Filling.{set-each, zeros}
use Rattle.records.proofs.Theorems.Accepted.{AcceptedFacts}
use Rattle.columns.specs.Code.Packed.{term_limit}
use Rattle.scripts.specs.Format.{entry_at, entries, term_at}
use Rattle.scripts.specs.Code.Codes.{TermRecord, origin, IsOrigin, function_limit, code_of, code_at, code_term}
use Rattle.scripts.specs.Code.Index.{number_of, code_in, origin_in, TermsBefore, NumberedBelow, AllNumbered, link_count}
use Rattle.scripts.specs.Code.Index.{linked, Blank, Tree, Met, Found, Entered, known, new, IndexedBelow}
use Rattle.scripts.specs.declared.entry.Entry.{Entry}
use Rattle.scripts.proofs.Laws.SearchTree.{ended_code, came-over, way_within, found_none, kept_link, kept-met, new-met}
use Rattle.scripts.proofs.Theorems.Form.{KeepsForm}
use Rattle.scripts.proofs.Refinement.Origins.{origin-least, origin_of, origin-own}
use Rattle.scripts.proofs.Refinement.Terms.{First, Applied, term_record, applied_record, code_valid, code_small, code_term_lem}
use Rattle.scripts.proofs.Refinement.Terms.{term-positive, header_code, first_code, applied_code, code_unique}

-- tables of zeros
pub blank_tables : (s : List ℕ) (m n end : ℕ) → TermsBefore s end → end ≤ n → 1 < n → m ≡ link_count * n
    → Blank s (replicate m 0) (replicate n 0)
blank_tables s m n end h k some e =
    record {
      room = λ t r. rw (length-replicate {A = ℕ} n 0) (omega (arith, h t r));
      some = rw (length-replicate {A = ℕ} n 0) some;
      size = rw (length-replicate {A = ℕ} n 0) (length-replicate {A = ℕ} m 0 ∙ e);
      empty = zeros m;
      header = zeros n 0;
    }

-- Record i, which was read, is a function term, and the table has the origin of its inner term.
pub record FunctionTerm (s terms : List ℕ) (i : ℕ) (e : Entry) : Type 0 where
  pub term : TermRecord s i
  pub kind : (entry_at s i).w0 ≡ 2
  pub inner : e.w2 < i
  pub before : origin_in terms e.w2 < i
  pub code : code_of e.w1 (origin_in terms e.w2) ≡ code_at s i

-- the origin of a record that was entered does not come after it
pub entered-before : (s links terms : List ℕ) (code i : ℕ) → IndexedBelow s links terms i → (after : List ℕ) (first : ℕ)
    → Entered links terms code i after first → first ≤ i
entered-before s links terms code i x after first (known slot found p) = omega (arith, x.before slot p)
entered-before s links terms code i x after first (new slot found e) = omega arith

module _ (v s : List ℕ) (good : AcceptedFacts v) (f : KeepsForm v s) where
  -- what the table tells of a term record
  module _ (terms : List ℕ) (i : ℕ) (t : NumberedBelow s terms i) (n : ℕ) (h : n < i) (r : TermRecord s n) where
    pub number_code : code_in terms n ≡ code_at s n
    number_code = rw (t.numbers n h r) (omega (arith, code_small v s good f n r))

    pub number-origin : origin_in terms n ≡ origin s n
    number-origin = rw (t.numbers n h r) (omega (arith, code_small v s good f n r))

  -- of the term for y: no number stands at the header
  pub number-second : (terms : List ℕ) → AllNumbered s terms → (n : ℕ) → (n ≡ 0) ⊎ TermRecord s n → code_in terms n ≡ code_at s n
  number-second terms t n (inl e) = rw (e, t.header, header_code v s good f)
  number-second terms t n (inr r) = number_code terms (entries s) t n r.within r

  -- equal terms have equal codes, and the other way round
  terms_coded : (n m : ℕ) → TermRecord s n → TermRecord s m → term_at s n ≡ term_at s m → code_at s n ≡ code_at s m
  terms_coded n m t u e =
      code_unique v s good f (code_at s n) (code_at s m) (code_valid v s good f n t) (code_valid v s good f m u)
      (code_term_lem v s good f n t ∙ e ∙ sym (code_term_lem v s good f m u))

  codes_termed : (n m : ℕ) → TermRecord s n → TermRecord s m → code_at s n ≡ code_at s m → term_at s n ≡ term_at s m
  codes_termed n m t u e =
      sym (code_term_lem v s good f n t) ∙ ap (code_term s) e ∙ code_term_lem v s good f m u

  -- the code of a function term has an earlier record above its function
  pub code_inner : (code i : ℕ) → TermRecord s i → (entry_at s i).w0 ≡ 2 → code ≡ code_at s i → code / function_limit < i
  code_inner code i t kind c =
      let a = applied_record v s good f i t kind in
      let w2 = (entry_at s i).w2 in
      let inner : code / function_limit ≡ origin s w2 = rw (c, applied_code v s good f i a) (omega (arith, a.small)) in
      omega (arith, inner, origin-least s w2 a.inner, a.earlier)

  pub function-term : (terms : List ℕ) (i : ℕ) → NumberedBelow s terms i → i < entries s → (e : Entry) → e ≡ entry_at s i
      → e.w0 ≡ 2 → FunctionTerm s terms i e
  function-term terms i t h e read kind =
      record {
        term = term;
        kind = own;
        inner = rw read a.earlier;
        before = omega (arith, inner, origin-least s (entry_at s i).w2 a.inner, a.earlier);
        code = rw inner (rw read (sym (applied_code v s good f i a)));
      }
    where
      own : (entry_at s i).w0 ≡ 2
      own = sym (ap (λ (y : Entry). y.w0) read) ∙ kind

      term : TermRecord s i
      term = record { within = h; term = rw own }

      a : Applied v s i
      a = applied_record v s good f i term own

      inner : origin_in terms e.w2 ≡ origin s (entry_at s i).w2
      inner = rw read (number-origin terms i t (entry_at s i).w2 a.earlier a.inner)

  module _ (links terms : List ℕ) (i : ℕ) (x : IndexedBelow s links terms i) (later : 1 < i) where
    -- only the first record is the constant, so a later one that is no function term is no term
    pub index_other : ((entry_at s i).w0 ≡ 2 → ⊥) → IndexedBelow s links terms (i + 1)
    index_other other =
        record {
          table = record {
            room = x.table.room;
            header = x.table.header;
            numbers = λ n h t. numbers n t (ℕ_discrete n i) h;
          };
          tree = x.tree;
          before = λ slot p. omega (arith, x.before slot p);
          nodes = x.nodes;
          entered = λ n h k o. linked_at n k o (ℕ_discrete n i) h;
        }
      where
        none : TermRecord s i → ⊥
        none t = at (term_record v s good f i t)
          where
            at : First s i ⊎ Applied v s i → ⊥
            at (inl a) = omega (arith, a.number)
            at (inr a) = other a.kind

        numbers : (n : ℕ) → TermRecord s n → Dec (n ≡ i) → n < i + 1 → get_or terms n 0 ≡ number_of (code_at s n) (origin s n)
        numbers n t (yes e) h = absurd (none (subst (TermRecord s) e t))
        numbers n t (no d) h = x.table.numbers n (omega arith) t

        linked_at : (n : ℕ) → (entry_at s n).w0 ≡ 2 → IsOrigin s n → Dec (n ≡ i) → n < i + 1
            → (slot : ℕ) × (linked links slot ≡ n)
        linked_at n k o (yes e) h = absurd (other (subst (λ (j : ℕ). (entry_at s j).w0 ≡ 2) e k))
        linked_at n k o (no d) h = x.entered n (omega arith) k o

    -- record i is a function term, of that code
    module _ (code : ℕ) (t : TermRecord s i) (c : code ≡ code_at s i) where
      -- the table, once the record's number is in it
      numbered : (j : ℕ) → origin s i ≡ j → NumberedBelow s (set terms i (number_of code j)) (i + 1)
      numbered j e =
          record {
            room = λ m r. rw (length-set terms i (number_of code j)) (x.table.room m r);
            header = get_or-set_other terms i 0 (number_of code j) 0 (λ z. omega arith) ∙ x.table.header;
            numbers = λ n h u. at n u (ℕ_discrete n i) h;
          }
        where
          at : (n : ℕ) → TermRecord s n → Dec (n ≡ i) → n < i + 1
              → get_or (set terms i (number_of code j)) n 0 ≡ number_of (code_at s n) (origin s n)
          at n u (yes q) h =
              rw (q, get_or-set_same terms i (number_of code j) 0 (x.table.room i t), c, e) refl
          at n u (no d) h = get_or-set_other terms i n (number_of code j) 0 d ∙ x.table.numbers n (omega arith) u

      -- nodes come before the record, so what the table has of them stays
      node_code : (number slot : ℕ) → 0 < linked links slot
          → code_in (set terms i number) (linked links slot) ≡ code_in terms (linked links slot)
      node_code number slot p =
          ap (λ (y : ℕ). y % term_limit)
          (get_or-set_other terms i (linked links slot) number 0 (λ e. omega (arith, e, x.before slot p)))

      tree-table : (number : ℕ) → Tree links (set terms i number)
      tree-table number =
          let same = length-set terms i number in
          record {
            size = rw same x.tree.size;
            later = x.tree.later;
            within = λ slot p. rw same (x.tree.within slot p);
            apart = x.tree.apart;
            met = λ slot p. rw (node_code number slot p) (x.tree.met slot p);
          }

      -- the search ended at a record
      known-origin : (slot : ℕ) → Found links terms code slot → 0 < linked links slot → origin s i ≡ linked links slot
      known-origin slot found p =
          let j = linked links slot in
          let o = x.nodes slot p in
          let same = ended_code links terms code slot found.ended p in
          let own = number_code terms i x.table j (x.before slot p) o.term in
          origin_of s j i o (codes_termed j i o.term t (sym own ∙ same ∙ c))

      index_known : (slot : ℕ) → Found links terms code slot → (p : 0 < linked links slot)
          → IndexedBelow s links (set terms i (number_of code (linked links slot))) (i + 1)
      index_known slot found p =
          record {
            table = numbered (linked links slot) first;
            tree = tree-table (number_of code (linked links slot));
            before = λ q h. omega (arith, x.before q h);
            nodes = x.nodes;
            entered = λ n h k o. at n k o (ℕ_discrete n i) h;
          }
        where
          first : origin s i ≡ linked links slot
          first = known-origin slot found p

          at : (n : ℕ) → (entry_at s n).w0 ≡ 2 → IsOrigin s n → Dec (n ≡ i) → n < i + 1 → (q : ℕ) × (linked links q ≡ n)
          at n k o (yes e) h =
              let own = subst (λ (j : ℕ). origin s j ≡ j) e o.first in
              absurd (omega (arith, x.before slot p, first, own))
          at n k o (no d) h = x.entered n (omega arith) k o

      -- the search ended at no record
      module _ (kind : (entry_at s i).w0 ≡ 2) (slot : ℕ) (found : Found links terms code slot)
          (empty : linked links slot ≡ 0) where
        applied : Applied v s i
        applied = applied_record v s good f i t kind

        -- an origin of the same term is of kind 2, as the constant is no function term
        new-origin : origin s i ≡ i
        new-origin = origin-own s i t none
          where
            none : (j : ℕ) → j < i → IsOrigin s j → term_at s j ≡ term_at s i → ⊥
            none j h o e =
                let same = terms_coded j i o.term t e in
                let own = number_code terms i x.table j h o.term in
                at (term_record v s good f j o.term) (own ∙ same ∙ sym c) (same ∙ sym c)
              where
                at : First s j ⊎ Applied v s j → code_in terms j ≡ code → code_at s j ≡ code → ⊥
                at (inl a) p q =
                    omega (arith, q, first_code v s good f j a, c, applied_code v s good f i applied, applied.positive)
                at (inr a) p q =
                    let some : 0 < j = omega (arith, a.earlier) in
                    let e = x.entered j h a.kind o in
                    let met = x.tree.met e.0 (rw e.1 some) in
                    found_none links terms code slot j found empty (rw (e.1, p) at met) some p

        -- the slot belongs to an earlier record
        slot_before : slot < link_count * i
        slot_before =
            rw found.came.place
            (way_within links terms code i found.steps (code_inner code i t kind c) x.before
            (came-over links terms code slot found.steps found.came))

        room : slot < length links
        room = omega (arith, slot_before, x.tree.size, x.table.room i t)

        -- what holds of record i at the slot, and of each link before, holds of each link
        each : (P : ℕ → ℕ → Type 0) → P slot i → ((q : ℕ) → 0 < linked links q → P q (linked links q))
            → (q : ℕ) → 0 < linked (set links slot i) q → P q (linked (set links slot i) q)
        each P here there =
            set-each (λ q j. 0 < j → P q j) links slot i 0 room (λ h. here) (λ q d. there q)

        abbrev number : ℕ
        number = number_of code i

        new_code : code_in (set terms i number) i ≡ code
        new_code =
            let small : code < term_limit = rw c (code_small v s good f i t) in
            rw (get_or-set_same terms i number 0 (x.table.room i t)) (omega arith)

        apart : (p q : ℕ) → 0 < linked (set links slot i) p → linked (set links slot i) p ≡ linked (set links slot i) q → p ≡ q
        apart p q h e = at (ℕ_discrete p slot) (ℕ_discrete q slot)
          where
            here : linked (set links slot i) slot ≡ i
            here = get_or-set_same links slot i 0 room

            there : (r : ℕ) → (r ≡ slot → ⊥) → linked (set links slot i) r ≡ linked links r
            there r d = get_or-set_other links slot r i 0 d

            at : Dec (p ≡ slot) → Dec (q ≡ slot) → p ≡ q
            at (yes a) (yes b) = a ∙ sym b
            at (yes a) (no b) =
                let moved = subst (λ (r : ℕ). linked (set links slot i) r ≡ linked (set links slot i) q) a e in
                let old = sym here ∙ moved ∙ there q b in
                absurd (omega (arith, old, x.before q (omega (arith, old, later))))
            at (no a) (yes b) =
                let old = sym (there p a) ∙ e ∙ ap (linked (set links slot i)) b ∙ here in
                absurd (omega (arith, old, x.before p (omega (arith, old, later))))
            at (no a) (no b) = x.tree.apart p q (rw (there p a) at h) (sym (there p a) ∙ e ∙ there q b)

        tree-new : Tree (set links slot i) (set terms i number)
        tree-new =
            record {
              size = rw (length-set links slot i, length-set terms i number) x.tree.size;
              later = each (λ q j. q < link_count * j) slot_before x.tree.later;
              within = each (λ q j. j < length (set terms i number))
                  (rw (length-set terms i number) (x.table.room i t)) (tree-table number).within;
              apart = apart;
              met = each (λ q j. Met (set links slot i) (code_in (set terms i number) j) j)
                  (rw new_code (new-met links slot i empty terms code found room))
                  (λ q h. kept-met links slot i empty _ _ h ((tree-table number).met q h));
            }

        index_new : IndexedBelow s (set links slot i) (set terms i number) (i + 1)
        index_new =
            record {
              table = numbered i new-origin;
              tree = tree-new;
              before = each (λ q j. j < i + 1) (omega arith) (λ q h. omega (arith, x.before q h));
              nodes = each (λ q j. IsOrigin s j) (record { term = t; first = new-origin }) x.nodes;
              entered = λ n h k o. at n k o (ℕ_discrete n i) h;
            }
          where
            at : (n : ℕ) → (entry_at s n).w0 ≡ 2 → IsOrigin s n → Dec (n ≡ i) → n < i + 1
                → (q : ℕ) × (linked (set links slot i) q ≡ n)
            at n k o (yes e) h = (slot, get_or-set_same links slot i 0 room ∙ sym e)
            at n k o (no d) h =
                let old = x.entered n (omega arith) k o in
                let some = some_at n k o in
                (old.0, kept_link links slot i empty old.0 (rw old.1 some) ∙ old.1)
              where
                some_at : (m : ℕ) → (entry_at s m).w0 ≡ 2 → IsOrigin s m → 0 < m
                some_at m k o = omega (arith, (applied_record v s good f m o.term k).earlier)

      pub index_entered : (entry_at s i).w0 ≡ 2 → (after : List ℕ) (first : ℕ) → Entered links terms code i after first
          → IndexedBelow s after (set terms i (number_of code first)) (i + 1)
      index_entered kind after first (known slot found p) = index_known slot found p
      index_entered kind after first (new slot found empty) = index_new kind slot found empty

  -- the tables as they come, but for the constant
  pub index_start : (links terms : List ℕ) → Blank s links terms → IndexedBelow s links (set terms 1 (number_of 0 1)) 2
  index_start links terms b =
      record {
        table = record {
          room = λ m r. rw (length-set terms 1 (number_of 0 1)) (b.room m r);
          header = get_or-set_other terms 1 0 (number_of 0 1) 0 (λ z. omega arith) ∙ b.header;
          numbers = λ n h t. at n t (term_record v s good f n t) h;
        };
        tree = record {
          size = rw (length-set terms 1 (number_of 0 1)) b.size;
          later = λ q h. absurd (omega (arith, h, b.empty q));
          within = λ q h. absurd (omega (arith, h, b.empty q));
          apart = λ p q h. absurd (omega (arith, h, b.empty p));
          met = λ q h. absurd (omega (arith, h, b.empty q));
        };
        before = λ q h. absurd (omega (arith, h, b.empty q));
        nodes = λ q h. absurd (omega (arith, h, b.empty q));
        entered = λ n h k o. let a = applied_record v s good f n o.term k in
            absurd (omega (arith, h, a.earlier, term-positive v s good f (entry_at s n).w2 a.inner));
      }
    where
      at : (n : ℕ) → TermRecord s n → First s n ⊎ Applied v s n → n < 2
          → get_or (set terms 1 (number_of 0 1)) n 0 ≡ number_of (code_at s n) (origin s n)
      at n t (inl a) h =
          let own = origin-own s n t (λ j l o e. omega (arith, l, a.number, term-positive v s good f j o.term)) in
          rw (first_code v s good f n a, own, a.number) (get_or-set_same terms 1 (number_of 0 1) 0 b.some)
      at n t (inr a) h = absurd (omega (arith, h, a.earlier, term-positive v s good f (entry_at s n).w2 a.inner))
