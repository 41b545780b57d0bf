-- Each call is its table: it tries the rows in their order and then has a value.
--   tries_vocabulary, tries_form, tries_chain                    rows 1 to 8 and 28; 13 to 19; 20 to 25
--   term_passed, form_passed                                     what row 10, and what the form, lets through
--   vocabulary_follows, record_follows, comparison_follows,
--   making_follows, addition_follows,
--   classification_follows, script_follows                       the calls
-- Assumes nothing.
use Prim.Native.Nat.{ℕ, ◌+◌, ◌*◌, ◌-◌}
use mathlib.Core.Path.{◌≡◌, refl, sym, ap, ◌∙◌}
use mathlib.Core.Bool.{Bool, true, false, not, ◌&&◌, ◌||◌}
use mathlib.Core.List.{List, [], ◌∷◌}
use lib.ListN.{length, take}
use lib.Dec.{ltb, leb}
use Rattle.records.specs.Outcome.{Check, accepted, refused, pass, ◌then◌, require}
use Rattle.records.specs.Format.{record_size, record_limit, role_limit, record_bytes, record_at, count, first_statement}
use Rattle.records.specs.Kinds.{sorts_of, is_term}
use Rattle.records.specs.Check.{length_fits, length_check, header_fits, kind_fits, row_fits, field_rows, record_check, link_fits}
use Rattle.records.specs.Check.{next_fits, link_check, records_check, held_fits, vocabulary_rows, vocabulary_check}
use Rattle.records.specs.Call.{record_call}
use Rattle.records.specs.Atoms.{atoms}
use Rattle.writer.specs.Additions.{Addition, grown}
use Rattle.writer.specs.Calls.{empty_header, making, is_addable, adding, new_length}
use Rattle.writer.proofs.Theorems.Outcomes.{length_then, adding-rows}
use Rattle.types.specs.Comparison.{verdict, counts, term_check, atoms_check, lent_check, size_check, query_check}
use Rattle.types.specs.Comparison.{atom_limit, bitmap_bytes, comparison}
use Rattle.taxonomy.specs.Taxonomy.{taxonomy_bytes, table_check, classification}
use Rattle.scripts.specs.Format.{entry_at, entries, query_of, first_step, line_of, chain}
use Rattle.columns.specs.Literals.{SkolemTerm}
use Rattle.scripts.specs.Form as script
use Rattle.scripts.specs.Steps.{Step, start, extension, reduction}
use Rattle.scripts.specs.Calculus.{remainder}
use Rattle.records.specs.Finite.{is_nil}
use Rattle.scripts.specs.Run.{is_start, connects, reduces, has_room, step_check, run, chain_check, written_out, step_at}
use Rattle.scripts.specs.Run.{script_check}
use Rattle.records.proofs.Laws.Checks.{then_pass, then_assoc}
use Rattle.records.proofs.Theorems.Accepted.{vocabulary_then}
use Rattle.demands.specs.Table.{Row, row, Follows, record_rows, next_rows, records_table, vocabulary_table, record_table}
use Rattle.demands.specs.Table.{term_row, making_table, addition_table}
use Rattle.demands.specs.Table.{comparison_table, classification_table, entry_rows, next_step_rows, form_table, OpenFrames}
use Rattle.demands.specs.Table.{opens_frame, frames_after, step_rows, later_rows, chain_table, script_table, TermOf, InForm}
use Rattle.demands.proofs.Laws.Rows.{none_passed, row_passed, Tries, follows, tries_append, tries_row, tries_plain}
use Rattle.demands.proofs.Laws.Rows.{tries_last, tries_rows, tries_in_turn}

module _ (v : List ℕ) where
  tries_record : (i : ℕ) → Tries (record_rows v i) (record_check v i)
  unfolding record_check
  tries_record i =
      let r = record_at v i in
      let s = sorts_of r.kind in
      tries_row (kind_fits r) 3 i (tries_rows (λ n. row_fits v i n s r) i field_rows)

  tries_records : Tries (records_table v) (records_check v)
  unfolding records_check link_check
  tries_records =
      tries_row (length_fits v) 1 0
      (tries_row (header_fits (record_at v 0)) 2 0
      (tries_append (tries_in_turn (record_rows v) (record_check v) (count v - 1) 1 tries_record)
      (tries_row (link_fits v 0 (first_statement v)) 8 0
      (tries_in_turn (next_rows v) (link_check v) (count v - 1) 1 (λ i. tries_last (next_fits v i) 8 i)))))

  pub tries_vocabulary : Tries (vocabulary_table v) (vocabulary_rows v)
  unfolding vocabulary_rows
  tries_vocabulary = tries_append tries_records (tries_last (held_fits v) 28 (atoms v))

  pub vocabulary_follows : Follows (vocabulary_table v) (count v) (vocabulary_check v)
  unfolding vocabulary_check
  vocabulary_follows = follows tries_vocabulary refl

  pub record_follows : (number : ℕ) → Follows (record_table v number) (8 * number) (record_call v number)
  unfolding record_call
  record_follows number =
      let known = ltb number (count v) in
      follows (tries_row (length_fits v) 1 0 (tries_last known 9 number))
      (sym (then_assoc (length_check v) (require known 9 number) _))

  tries_term : (x : ℕ) {rows : List Row} {c : Check} → Tries rows c → Tries (term_row v x ∷ rows) (term_check v x then c)
  tries_term x = tries_row (ltb x (count v) && is_term (record_at v x).kind) 10 x

  pub term_passed : (x : ℕ) → TermOf v x → term_check v x ≡ pass
  term_passed x h = row_passed (ltb x (count v) && is_term (record_at v x).kind) 10 x h.0

  pub comparison_follows : (a b lent : ℕ) → Follows (comparison_table v a b lent) (verdict v a b) (comparison v a b lent)
  unfolding comparison
  comparison_follows a b lent =
      let sizes = tries_row (leb (atoms v) atom_limit) 11 (atoms v) (tries_last (leb bitmap_bytes lent) 12 0) in
      let query = tries_term a (tries_term b sizes) in
      follows (tries_append tries_vocabulary query) (vocabulary_then v (query_check v a b lent) (accepted (verdict v a b)))

  pub classification_follows : (lent room : ℕ)
      → Follows (classification_table v lent room) (counts v) (classification v lent room)
  unfolding classification
  classification_follows lent room =
      let size = size_check (atoms v) lent in
      let buffers = tries_row (leb bitmap_bytes lent) 12 0 (tries_last (leb taxonomy_bytes room) 26 0) in
      let rows = tries_row (leb (atoms v) atom_limit) 11 (atoms v) buffers in
      follows (tries_append tries_vocabulary rows)
      (vocabulary_then v size (table_check room then accepted (counts v))
      ∙ regroup (vocabulary_rows v) (atoms_check (atoms v)) (lent_check lent) (table_check room))
    where
      regroup : (r k l t : Check)
          → ((r then k then l) then t then accepted (counts v)) ≡ ((r then k then l then t) then accepted (counts v))
      regroup (accepted u) (accepted w) l t = sym (then_assoc l t (accepted (counts v)))
      regroup (accepted u) (refused n p) l t = refl
      regroup (refused n p) k l t = refl

-- The writer's calls.
pub making_follows : (size roles : ℕ) → Follows (making_table size roles) 8 (new_length (making size roles))
unfolding making
making_follows size roles =
    let room = require (leb record_size size) 27 0 in
    let few = require (leb roles role_limit) 2 0 in
    let made = record_bytes (empty_header roles) in
    follows (tries_row (leb record_size size) 27 0 (tries_last (leb roles role_limit) 2 0))
    (ap new_length (sym (then_assoc room few (accepted made))) ∙ length_then (room then few) made)

pub addition_follows : (buffer : List ℕ) (used : ℕ) (x : Addition)
    → Follows (addition_table buffer used x) (used + 8) (new_length (adding buffer used x))
addition_follows buffer used x =
    let v = take used buffer in
    let size = length buffer in
    let new = tries_row (is_addable x) 3 (count v) (tries_record (grown v x) (count v)) in
    let room = tries_row (ltb (count v) record_limit && leb (length v + record_size) size) 27 (count v) new in
    follows (tries_row (leb used size) 1 0 (tries_append (tries_vocabulary v) room)) (adding-rows buffer used x)

module _ (v s : List ℕ) where
  tries_entry : (i : ℕ) → Tries (entry_rows v s i) (script.entry_check v s i)
  unfolding script.entry_check
  tries_entry i =
      let e = entry_at s i in
      tries_row (script.kind_fits e) 15 i
      (tries_row (script.unused_fits e) 16 i
      (tries_row (script.term_fits v s i (line_of e)) 17 i (tries_last (script.line_fits v s i (line_of e)) 18 i)))

  tries_form : Tries (form_table v s) (script.form_check v s)
  unfolding script.form_check script.link_check
  tries_form =
      let entered = tries_in_turn (entry_rows v s) (script.entry_check v s) (entries s - 1) 1 tries_entry in
      let linked = tries_in_turn (next_step_rows s) (script.link_check s) (entries s - 1) 1
      (λ i. tries_last (script.next_fits s i) 19 i) in
      let b = (query_of s).b in
      let asked = tries_term v (query_of s).a (tries_last (ltb b (count v) && is_term (record_at v b).kind) 10 b) in
      tries_row (script.length_fits s) 13 0
      (tries_row (script.header_fits (entry_at s 0)) 14 0
      (tries_append asked
      (tries_append (tries_row (ltb 1 (entries s)) 17 1 entered) (tries_row (script.link_fits s 0 (first_step s)) 19 0 linked))))

  pub form_passed : InForm v s → script.form_check v s ≡ pass
  form_passed kept = sym tries_form.same ∙ none_passed (form_table v s) kept

  -- row 23 as the run has it
  room_frame : (frames : OpenFrames v s) (step : Step SkolemTerm)
      → not (opens_frame v s step && not (ltb (length frames) 64)) ≡ has_room (written_out v (query_of s)) frames step
  room_frame frames (start n) = refl
  room_frame frames (extension e) = at (is_nil (remainder v (query_of s) e)) (ltb (length frames) 64)
    where
      at : (b c : Bool) → not (not b && not c) ≡ (b || c)
      at true c = refl
      at false true = refl
      at false false = refl
  room_frame frames (reduction f) = refl

  tries_room : (frames : OpenFrames v s) (step : Step SkolemTerm) (i : ℕ)
      → Tries (row 23 i (opens_frame v s step && not (ltb (length frames) 64)) ∷ [])
      (require (has_room (written_out v (query_of s)) frames step) 23 i)
  tries_room frames step i =
      record { same = then_pass _ ∙ ap (λ (b : Bool). require b 23 i) (room_frame frames step) }

  tries_step : (frames : OpenFrames v s) (i : ℕ)
      → Tries (step_rows v s frames i) (step_check (written_out v (query_of s)) i frames (step_at s i))
  unfolding step_check
  tries_step frames i =
      let paper = written_out v (query_of s) in
      tries_plain (is_nil frames) 25 i
      (tries_plain (is_start (step_at s i)) 20 i
      (tries_row (connects paper frames (step_at s i)) 21 i
      (tries_row (reduces paper frames (step_at s i)) 22 i (tries_room frames (step_at s i) i))))

  tries_later : (is : List ℕ) (frames : OpenFrames v s) (last : ℕ)
      → Tries (later_rows v s frames last is) (run (written_out v (query_of s)) (step_at s) frames last is)
  unfolding later_rows run
  tries_later [] frames last = tries_last (is_nil frames) 24 last
  tries_later (i ∷ is) frames last = tries_append (tries_step frames i) (tries_later is (frames_after v s frames i) i)

  tries_chain : (is : List ℕ) → Tries (chain_table v s is) (chain_check (written_out v (query_of s)) (step_at s) is)
  unfolding chain_table chain_check
  tries_chain [] = record { same = refl }
  tries_chain (i ∷ is) = tries_row (is_start (step_at s i)) 20 i (tries_later is (frames_after v s [] i) i)

  pub script_follows : Follows (script_table v s) (length (chain s)) (script_check v s)
  unfolding script_check
  script_follows =
      let ran = chain_check (written_out v (query_of s)) (step_at s) (chain s) in
      let value = accepted (length (chain s)) in
      follows (tries_append (tries_append (tries_vocabulary v) tries_form) (tries_chain (chain s)))
      (vocabulary_then v (script.form_check v s) (ran then value)
      ∙ sym (then_assoc (vocabulary_rows v then script.form_check v s) ran value))
