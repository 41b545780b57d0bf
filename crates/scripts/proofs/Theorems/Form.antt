-- What a passed form tells: rows 13, 14, 10 and 15 to 19.
--   Sized, TermNumber, IsStepAt              the length's bounds; a number of a term of the vocabulary; a step record
--   KeepsForm                                what is told of a script
--   length-sized, header-kind, term-number   rows 13, 14 and 10
--   Rows, rows_passed, entry-rows            rows 15 to 18 at a record
--   link_onward, next_onward                 row 19: a link, and a step's next, lead onward
--   keeps_form                               what a passed form tells of a script
--   step-listed, line_step, step_fits_lem        row 18: a step uses what is listed; at a record; at a record of the chain
--   chain-few                                the length of the chain
--   query-below                              the query's numbers have 16 bits
--   OnChain, chain_ahead, chain-ends         the chain has steps alone; followed as far as one likes it is the chain
--   steps-listed, chain-listed               each of these uses what is listed
-- Assumes nothing.
use Prim.Native.Nat.{ℕ, ◌+◌, ◌*◌, ◌-◌, ◌%◌, ◌≤◌, ◌<◌}
use native.Mathlib.Omega.{arith}
use mathlib.Core.Path.{◌≡◌, refl, sym, subst, ◌∙◌}
use mathlib.Core.Bool.{Bool, true, false, ◌&&◌, ◌||◌}
use mathlib.Core.List.{List, [], ◌∷◌, map}
use mathlib.Core.Logic.{inl, inr}
use lib.ListN.{length, get_or, drop}
use lib.Seq.{get_or-take, get_or-drop}
use lib.Dec.{ltb, leb, eqb}
use borrow.Author.Tests.{ltb-true, leb-true, eqb-true}
use Rattle.records.specs.Outcome.{pass, ◌then◌, require, in_turn}
use Rattle.records.specs.Format.{record_at, count}
use Rattle.records.specs.Kinds.{is_term}
use Rattle.records.proofs.Laws.Tests.{both_left, both_right, implies_rest}
use Rattle.records.specs.Chain.{follow}
use Rattle.records.proofs.Laws.Checks.{require_passed, then_passed, turn_at}
use Rattle.records.proofs.Theorems.Following.{Ahead, Onward, follow-few, follow-ends, follow_target}
use Rattle.records.proofs.Laws.Lists.{All, all_occurring}
use Rattle.types.specs.Comparison.{term_check}
use Rattle.columns.specs.Columns.{column_at, takes_y}
use Rattle.scripts.specs.Steps.{Step, start, extension, reduction, step_by}
use Rattle.scripts.specs.Format.{entry_size, entry_limit, part_at, entry_at, entries, query_of, first_step, Line, blank}
use Rattle.scripts.specs.Format.{theConstant, applied, step, line_of, line_at, is_step, step_of, record_step, next_step}
use Rattle.scripts.specs.Format.{chain_from, chain, term_at}
use Rattle.scripts.specs.Form.{length_fits, length_check, header_fits, header_check, query_terms_check, kind_fits, unused_fits}
use Rattle.scripts.specs.Form.{term_fits, step_fits, line_fits, x_fits, y_fits, rows_check, entry_check, entries_check, link_fits}
use Rattle.scripts.specs.Form.{next_fits, link_check, links_check, form_check}
use Rattle.records.specs.Finite.{all_zero}
use Rattle.scripts.specs.Run.{step_at}
use Rattle.scripts.proofs.Theorems.Derivations.{StepListed, AllListed}
use Rattle.scripts.specs.declared.entry.Entry.{Entry}

-- The chain has no more steps than there are records.
pub chain-few : (s : List ℕ) (i : ℕ) → length (chain_from s i) ≤ entries s
chain-few s i = follow-few (next_step s) (entries s) i

-- Row 13 passed: 16 to 32,768 bytes, a multiple of 16.
pub record Sized (s : List ℕ) : Type 0 where
  pub least : entry_size ≤ length s
  pub most : length s ≤ entry_size * entry_limit
  pub whole : length s % entry_size ≡ 0

-- x is the number of a term of the vocabulary.
abbrev pub TermNumber : List ℕ → ℕ → Type 0
TermNumber v x = (x < count v) × (is_term (record_at v x).kind ≡ true)

abbrev pub IsStepAt : List ℕ → ℕ → Type 0
IsStepAt s x = is_step (entry_at s x).w0 ≡ true

pub record KeepsForm (v s : List ℕ) : Type 0 where
  pub sized : Sized s
  pub present : 1 < entries s
  pub header : (entry_at s 0).w0 ≡ 32
  pub query : TermNumber v (query_of s).a × TermNumber v (query_of s).b
  pub kinds : (i : ℕ) → 0 < i → i < entries s → (1 ≤ (entry_at s i).w0) × ((entry_at s i).w0 ≤ 5)
  pub unused : (i : ℕ) → 0 < i → i < entries s → unused_fits (entry_at s i) ≡ true
  pub terms : (i : ℕ) → 0 < i → i < entries s → term_fits v s i (line_at s i) ≡ true
  pub steps : (i : ℕ) → 0 < i → i < entries s → line_fits v s i (line_at s i) ≡ true
  pub first : Onward (IsStepAt s) (entries s) 0 (first_step s)
  pub links : (i : ℕ) → 0 < i → i < entries s → IsStepAt s i → Onward (IsStepAt s) (entries s) i (next_step s i)

pub length-sized : (s : List ℕ) → length_check s ≡ pass → Sized s
length-sized s e =
    let long = leb entry_size (length s) in
    let short = leb (length s) (entry_size * entry_limit) in
    let even = eqb (length s % entry_size) 0 in
    let fit = require_passed (length_fits s) 13 0 e in
    let rest = both_right long (short && even) fit in
    record {
      least = leb-true _ _ (both_left long (short && even) fit);
      most = leb-true _ _ (both_left short even rest);
      whole = eqb-true _ _ (both_right short even rest);
    }

header-kind : (s : List ℕ) → header_check s ≡ pass → (entry_at s 0).w0 ≡ 32
header-kind s e =
    let h = entry_at s 0 in
    let unused = all_zero (h.w4 ∷ h.w5 ∷ h.w6 ∷ h.w7 ∷ []) in
    eqb-true h.w0 32 (both_left (eqb h.w0 32) unused (require_passed (header_fits h) 14 0 e))

term-number : (v : List ℕ) (x : ℕ) → term_check v x ≡ pass → TermNumber v x
term-number v x e =
    let fit = require_passed (ltb x (count v) && is_term (record_at v x).kind) 10 x e in (
      ltb-true x (count v) (both_left (ltb x (count v)) (is_term (record_at v x).kind) fit),
      both_right (ltb x (count v)) (is_term (record_at v x).kind) fit,
    )

-- Rows 15 to 18 passed, at one record.
record Rows (v s : List ℕ) (i : ℕ) (e : Entry) : Type 0 where
  kind : (1 ≤ e.w0) × (e.w0 ≤ 5)
  unused : unused_fits e ≡ true
  term : term_fits v s i (line_of e) ≡ true
  step : line_fits v s i (line_of e) ≡ true

rows_passed : (v s : List ℕ) (i : ℕ) (e : Entry) → rows_check v s i e ≡ pass → Rows v s i e
rows_passed v s i e p =
    let fourth = require (line_fits v s i (line_of e)) 18 i in
    let third = require (term_fits v s i (line_of e)) 17 i in
    let second = require (unused_fits e) 16 i in
    let a = then_passed (require (kind_fits e) 15 i) (second then third then fourth) tt p in
    let b = then_passed second (third then fourth) tt a.1 in
    let c = then_passed third fourth tt b.1 in
    let fit = require_passed (kind_fits e) 15 i a.0 in
    record {
      kind = (
        leb-true 1 e.w0 (both_left (leb 1 e.w0) (leb e.w0 5) fit),
        leb-true e.w0 5 (both_right (leb 1 e.w0) (leb e.w0 5) fit),
      );
      unused = require_passed (unused_fits e) 16 i b.0;
      term = require_passed (term_fits v s i (line_of e)) 17 i c.0;
      step = require_passed (line_fits v s i (line_of e)) 18 i c.1;
    }

entry-rows : (v s : List ℕ) (i : ℕ) → entry_check v s i ≡ pass → Rows v s i (entry_at s i)
unfolding entry_check
entry-rows v s i e = rows_passed v s i (entry_at s i) e

link_onward : (s : List ℕ) (i x : ℕ) → link_fits s i x ≡ true → Onward (IsStepAt s) (entries s) i x
link_onward s i x e = at (eqb x 0) refl e
  where
    below : Bool
    below = ltb x (entries s)

    step : Bool
    step = is_step (entry_at s x).w0

    at : (z : Bool) → eqb x 0 ≡ z → (z || (ltb i x && (below && step))) ≡ true → Onward (IsStepAt s) (entries s) i x
    at true q h = inl (eqb-true x 0 q)
    at false q h =
        let rest = both_right (ltb i x) (below && step) h in
        inr record {
          later = ltb-true i x (both_left (ltb i x) (below && step) h);
          within = ltb-true x (entries s) (both_left below step rest);
          target = both_right below step rest;
        }

next_onward : (s : List ℕ) (i : ℕ) → link_check s i ≡ pass → IsStepAt s i → Onward (IsStepAt s) (entries s) i (next_step s i)
unfolding link_check
next_onward s i e h =
    link_onward s i (next_step s i)
    (implies_rest (is_step (entry_at s i).w0) (link_fits s i (next_step s i)) (require_passed (next_fits s i) 19 i e) h)

pub keeps_form : (v s : List ℕ) → form_check v s ≡ pass → KeepsForm v s
unfolding form_check
keeps_form v s e =
    let query = query_terms_check v (query_of s) in
    let entered = in_turn (entry_check v s) 1 (entries s - 1) in
    let linked = in_turn (link_check s) 1 (entries s - 1) in
    let a = then_passed (length_check s) (header_check s then query then entries_check v s then links_check s) tt e in
    let b = then_passed (header_check s) (query then entries_check v s then links_check s) tt a.1 in
    let c = then_passed query (entries_check v s then links_check s) tt b.1 in
    let d = then_passed (entries_check v s) (links_check s) tt c.1 in
    let asked = then_passed (term_check v (query_of s).a) (term_check v (query_of s).b) tt c.0 in
    let each = then_passed (require (ltb 1 (entries s)) 17 1) entered tt d.0 in
    let link = then_passed (require (link_fits s 0 (first_step s)) 19 0) linked tt d.1 in
    let rows : (i : ℕ) → 0 < i → i < entries s → Rows v s i (entry_at s i)
    = λ i p h. entry-rows v s i (turn_at (entry_check v s) (entries s - 1) 1 each.1 i p (omega arith)) in
    record {
      sized = length-sized s a.0;
      present = ltb-true 1 (entries s) (require_passed (ltb 1 (entries s)) 17 1 each.0);
      header = header-kind s b.0;
      query = (term-number v (query_of s).a asked.0, term-number v (query_of s).b asked.1);
      kinds = λ i p h. (rows i p h).kind;
      unused = λ i p h. (rows i p h).unused;
      terms = λ i p h. (rows i p h).term;
      steps = λ i p h. (rows i p h).step;
      first = link_onward s 0 (first_step s) (require_passed (link_fits s 0 (first_step s)) 19 0 link.0);
      links = λ i p h. next_onward s i (turn_at (link_check s) (entries s - 1) 1 link.1 i p (omega arith));
    }

-- A step ahead of the header.
abbrev pub OnChain : List ℕ → ℕ → Type 0
OnChain s i = Ahead (IsStepAt s) (entries s) 0 i

module _ (v s : List ℕ) where
  step-listed : (i : ℕ) (t : Step ℕ) → step_fits v s i t ≡ true → StepListed v (query_of s) (step_by (term_at s) t)
  step-listed i (start n) e = leb-true n 1 e
  step-listed i (extension x) e =
      let c = column_at v (query_of s) x.owner x.column in
      ltb-true x.position (length c)
      (both_left (ltb x.position (length c)) (x_fits s i x.owner x.first && y_fits s i (takes_y c) x.second) e)
  step-listed i (reduction f) e = tt

  -- what a record says that is no step counts as start 0
  pub line_step : (i : ℕ) (l : Line) → line_fits v s i l ≡ true → step_fits v s i (step_of l) ≡ true
  line_step i blank e = refl
  line_step i theConstant e = refl
  line_step i (applied f t) e = refl
  line_step i (step t) e = e

  module _ (f : KeepsForm v s) where
    pub chain_ahead : All (OnChain s) (chain s)
    chain_ahead =
        all_occurring (OnChain s) (chain s)
        (λ i o. follow_target (next_step s) (IsStepAt s) (entries s) f.links (entries s) 0 (first_step s) i f.first o)

    pub chain-ends : (n : ℕ) → entries s ≤ n → follow (next_step s) n (first_step s) ≡ chain s
    chain-ends n h = follow-ends (next_step s) (IsStepAt s) (entries s) f.links n (first_step s) f.first h

    pub step_fits_lem : (i : ℕ) → OnChain s i → step_fits v s i (record_step s i) ≡ true
    step_fits_lem i a = line_step i (line_at s i) (f.steps i a.later a.within)

    steps-listed : (is : List ℕ) → All (OnChain s) is → AllListed v (query_of s) (map (step_at s) is)
    steps-listed [] a = tt
    steps-listed (i ∷ is) a = (
      step-listed i (record_step s i) (step_fits_lem i a.0),
      steps-listed is a.1,
    )

    pub chain-listed : AllListed v (query_of s) (map (step_at s) (chain s))
    chain-listed = steps-listed (chain s) chain_ahead

-- The query's numbers have 16 bits, where the script consists of bytes.
header_byte : (s : List ℕ) (i : ℕ) → i < entry_size → ((j : ℕ) → get_or s j 0 < 256) → get_or (part_at s 0) i 0 < 256
header_byte s i h bytes =
    let e = get_or-take entry_size (drop (entry_size * 0) s) i 0 h ∙ get_or-drop (entry_size * 0) s i 0 in
    subst (λ (x : ℕ). x < 256) (sym e) (bytes (entry_size * 0 + i))

pub query-below : (s : List ℕ) → ((i : ℕ) → get_or s i 0 < 256) → ((query_of s).a < 65536) × ((query_of s).b < 65536)
unfolding entry_at
query-below s bytes = (
  omega (arith, header_byte s 2 (omega arith) bytes, header_byte s 3 (omega arith) bytes),
  omega (arith, header_byte s 4 (omega arith) bytes, header_byte s 5 (omega arith) bytes),
)
