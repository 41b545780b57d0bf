-- The paper's table of refusals, as a list of rows for each call: each row with its number, its place and whether it applies.
-- Rows 26 to 28 are paper 02's.
-- "Every refusal gives number and place and leaves all lent memory untouched. The first that applies in table order is given
-- and never otherwise."
use Rattle.std.specs.Prelude.{ℕ, zero, suc, ◌+◌, ◌-◌, ◌%◌, ◌≡◌, Bool, true, false, not, ◌&&◌, ◌||◌, List, [], ◌∷◌, ◌++◌, length}
use Rattle.std.specs.Prelude.{take, ltb, leb, eqb}
use Rattle.records.specs.Outcome.{Outcome, accepted, refused}
use Rattle.records.specs.Format.{record_at, count, first_statement}
use Rattle.records.specs.Kinds.{sorts_of, is_term}
use Rattle.records.specs.Check.{kind_fits, row_fits, link_fits, next_fits, held_fits}
use Rattle.records.specs.Atoms.{atoms}
use Rattle.writer.specs.Additions.{Addition, grown}
use Rattle.writer.specs.Calls.{is_addable}
use Rattle.columns.specs.Literals.{SkolemTerm, Literal}
use Rattle.scripts.specs.Format.{entry_at, entries, query_of, first_step, line_of, chain}
use Rattle.scripts.specs.Form as script
use Rattle.scripts.specs.Steps.{Step, start, extension, reduction}
use Rattle.scripts.specs.Calculus.{remainder}
use Rattle.scripts.specs.Run.{Frames, is_start, connects, reduces, stepped, written_out, step_at}
use Rattle.records.specs.Finite.{is_nil}

pub record Row : Type 0 where
  pub number : ℕ
  pub place : ℕ
  pub applies : Bool

abbrev pub row : ℕ → ℕ → Bool → Row
row number place applies = record { number = number; place = place; applies = applies }

-- "in turn": the rows at i, i + 1, .., n of them
unfoldable pub rows_in_turn : (ℕ → List Row) → ℕ → ℕ → List Row
rows_in_turn rows i zero = []
rows_in_turn rows i (suc n) = rows i ++ rows_in_turn rows (suc i) n

-- The rows, in the paper's order; a line between bars is the paper's.

-- | Vocabulary length | 1 | under 8, over 4,096 or no multiple of 8 | 0 |
abbrev pub length_row : List ℕ → Row
length_row v = row 1 0 (not (leb 8 (length v) && (leb (length v) 4096 && eqb (length v % 8) 0)))

-- | Its header | 2 | kind, second byte, role count or next | 0 |
-- Slip 5 of paper 02: "Refusal 2 admits the new second byte with any next."
abbrev pub header_row : List ℕ → Row
header_row v =
    let r = record_at v 0 in
    row 2 0 (not (eqb r.kind 16 && (leb r.b 64 && (eqb r.second 2 || (eqb r.second 1 && eqb r.next 0)))))

-- | Each record in turn | 3 | kind not 1 to 9, or second byte | record |
-- | | 4 | unused field not zero | record |
-- | | 5 | term number | record |
-- | | 6 | role not below the count | record |
-- | | 7 | label of an earlier name | record |
abbrev pub record_rows : List ℕ → ℕ → List Row
record_rows v i =
    let r = record_at v i in
    row 3 i (not (kind_fits r))
    ∷ row 4 i (not (row_fits v i 4 (sorts_of r.kind) r))
    ∷ row 5 i (not (row_fits v i 5 (sorts_of r.kind) r))
    ∷ row 6 i (not (row_fits v i 6 (sorts_of r.kind) r))
    ∷ row 7 i (not (row_fits v i 7 (sorts_of r.kind) r))
    ∷ []

-- | Header A, then each statement's next | 8 | not 0 and not a later statement | record |
abbrev pub header_link_row : List ℕ → Row
header_link_row v = row 8 0 (not (link_fits v 0 (first_statement v)))

abbrev pub next_rows : List ℕ → ℕ → List Row
next_rows v i = row 8 i (not (next_fits v i)) ∷ []

-- Slip 5 of paper 02: "Turned away: 28, after 8, when an edition 2 header holds a wrong k, place the true k."
abbrev pub held_row : List ℕ → Row
held_row v = row 28 (atoms v) (not (held_fits v))

-- | Record call, after 1 | 9 | number past the end | number |
abbrev pub number_row : List ℕ → ℕ → Row
number_row v number = row 9 number (not (ltb number (count v)))

-- | Query A, then B | 10 | no term record | number |
abbrev pub term_row : List ℕ → ℕ → Row
term_row v x = row 10 x (not (ltb x (count v) && is_term (record_at v x).kind))

-- | Comparison | 11 | k over 12 | k |
abbrev pub atoms_row : List ℕ → Row
atoms_row v = row 11 (atoms v) (not (leb (atoms v) 12))

-- | | 12 | under 512 bytes lent | 0 |
abbrev pub lent_row : ℕ → Row
lent_row lent = row 12 0 (not (leb 512 lent))

-- Slip 1 of paper 02: "Turned away: 26, after 12, for fewer than 144 bytes in the second buffer, place 0."
abbrev pub table_row : ℕ → Row
table_row lent = row 26 0 (not (leb 144 lent))

-- Slip 4 of paper 02: "a length past the buffer giving 1"; "then 27, before the new record's own checks, at 512 records or fewer
-- than 8 free bytes, place the record count (0 when an empty one is being made); role counts over 64 then get 2."
abbrev pub used_row : List ℕ → ℕ → Row
used_row buffer used = row 1 0 (not (leb used (length buffer)))

abbrev pub room_row : List ℕ → ℕ → Row
room_row v size = row 27 (count v) (not (ltb (count v) 512 && leb (length v + 8) size))

abbrev pub empty_room_row : ℕ → Row
empty_room_row size = row 27 0 (not (leb 8 size))

abbrev pub roles_row : ℕ → Row
roles_row roles = row 2 0 (not (leb roles 64))

-- "a term, kinds 1 to 8 (else 3)"
abbrev pub addable_row : List ℕ → Addition → Row
addable_row v x = row 3 (count v) (not (is_addable x))

-- | Script length, after 1 to 8 | 13 | under 16, over 32,768 or no multiple of 16 | 0 |
abbrev pub script_length_row : List ℕ → Row
script_length_row s = row 13 0 (not (leb 16 (length s) && (leb (length s) 32768 && eqb (length s % 16) 0)))

-- | Script header, then 10 | 14 | w0, or w4 to w7 | 0 |
abbrev pub script_header_row : List ℕ → Row
script_header_row s = row 14 0 (not (script.header_fits (entry_at s 0)))

-- | Each script record in turn | 15 | kind not 1 to 5 | record |
-- | | 16 | unused word not zero | record |
-- | | 17 | term rule; record 1 absent or not the constant | record, 1 if absent |
-- | | 18 | start's w1 over 1; extension's owner, column or position not one that exists, w3 or a needed w4 not an earlier term
-- record, w3 not 1 for owner 0, w4 not 0 without y, or a statement off the chain | record |
abbrev pub entry_rows : List ℕ → List ℕ → ℕ → List Row
entry_rows v s i =
    let e = entry_at s i in
    row 15 i (not (script.kind_fits e))
    ∷ row 16 i (not (script.unused_fits e))
    ∷ row 17 i (not (script.term_fits v s i (line_of e)))
    ∷ row 18 i (not (script.line_fits v s i (line_of e)))
    ∷ []

-- Row 17, where there is no record 1.
abbrev pub absent_row : List ℕ → Row
absent_row s = row 17 1 (not (ltb 1 (entries s)))

-- | w3, then each step's next | 19 | not 0 and not a later step | record |
abbrev pub first_step_row : List ℕ → Row
first_step_row s = row 19 0 (not (script.link_fits s 0 (first_step s)))

abbrev pub next_step_rows : List ℕ → ℕ → List Row
next_step_rows s i = row 19 i (not (script.next_fits s i)) ∷ []

-- Along the chain of a script, the steps are read and the frames kept as Run of scripts says.
module _ (v s : List ℕ) where
  -- The step opens a frame: "the column's other literals become the next frame, or, if there are none, the goal is closed".
  abbrev pub opens_frame : Step SkolemTerm → Bool
  opens_frame (start n) = false
  opens_frame (extension e) = not (is_nil (remainder v (query_of s) e))
  opens_frame (reduction f) = false

  abbrev pub OpenFrames : Type 0
  OpenFrames = Frames (Literal SkolemTerm)

  abbrev pub frames_after : OpenFrames → ℕ → OpenFrames
  frames_after frames i = stepped (written_out v (query_of s)) frames (step_at s i)

  -- | Along the chain | 25 | step after all is closed | record |
  -- | | 20 | no first start, or a later one | record, 0 if no step |
  -- | | 21 | extension not complementary | record |
  -- | | 22 | reduction frame or complement | record |
  -- | | 23 | a 65th frame | record |
  -- The five at a step after the first.
  abbrev pub step_rows : OpenFrames → ℕ → List Row
  step_rows frames i =
      row 25 i (is_nil frames)
      ∷ row 20 i (is_start (step_at s i))
      ∷ row 21 i (not (connects (written_out v (query_of s)) frames (step_at s i)))
      ∷ row 22 i (not (reduces (written_out v (query_of s)) frames (step_at s i)))
      ∷ row 23 i (opens_frame (step_at s i) && not (ltb (length frames) 64))
      ∷ []

  -- "Along the chain the five are tried at each step before the next."
  -- | Chain's end | 24 | a frame left | last step |
  unfoldable pub later_rows : OpenFrames → ℕ → List ℕ → List Row
  later_rows frames last [] = row 24 last (not (is_nil frames)) ∷ []
  later_rows frames last (i ∷ rest) = step_rows frames i ++ later_rows (frames_after frames i) i rest

  -- The first step has to be a start: 20. Before it nothing was opened, so 25 does not apply, and a start meets none of 21 to 23.
  unfoldable pub chain_table : List ℕ → List Row
  chain_table [] = row 20 0 true ∷ []
  chain_table (i ∷ rest) = row 20 i (not (is_start (step_at s i))) ∷ later_rows (frames_after [] i) i rest

-- The tables of the calls. Rows 1 to 8:
abbrev pub records_table : List ℕ → List Row
records_table v =
    length_row v
    ∷ header_row v
    ∷ rows_in_turn (record_rows v) 1 (count v - 1)
    ++ header_link_row v
    ∷ rows_in_turn (next_rows v) 1 (count v - 1)

-- The vocabulary check: 28 "and later refusals of the vocabulary check count among 1 to 8 wherever these are named".
abbrev pub vocabulary_table : List ℕ → List Row
vocabulary_table v = records_table v ++ held_row v ∷ []

-- The record call, "after 1":
abbrev pub record_table : List ℕ → ℕ → List Row
record_table v number = length_row v ∷ number_row v number ∷ []

-- "The order for a comparison is 1 to 8, 10, 11, 12":
abbrev pub comparison_table : List ℕ → ℕ → ℕ → ℕ → List Row
comparison_table v a b lent =
    vocabulary_table v
    ++ term_row v a
    ∷ term_row v b
    ∷ atoms_row v
    ∷ lent_row lent
    ∷ []

-- The classification, "With no query", so without 10, and "26, after 12": 1 to 8, 11, 12, 26.
abbrev pub classification_table : List ℕ → ℕ → ℕ → List Row
classification_table v lent room =
    vocabulary_table v
    ++ atoms_row v
    ∷ lent_row lent
    ∷ table_row room
    ∷ []

-- Making an empty vocabulary: 27, 2.
abbrev pub making_table : ℕ → ℕ → List Row
making_table size roles = empty_room_row size ∷ roles_row roles ∷ []

-- An addition: "the bytes in use first meet 1 to 8", then 27, then "the new record's own checks", which are the reader's at that
-- record: its number is the record count.
abbrev pub addition_table : List ℕ → ℕ → Addition → List Row
addition_table buffer used x =
    let v = take used buffer in
    used_row buffer used
    ∷ vocabulary_table v
    ++ room_row v (length buffer)
    ∷ addable_row v x
    ∷ record_rows (grown v x) (count v)

-- "for a script check 1 to 8, 13, 14, 10, then 15 on", of which 13 to 19 are the form:
abbrev pub form_table : List ℕ → List ℕ → List Row
form_table v s =
    script_length_row s
    ∷ script_header_row s
    ∷ term_row v (query_of s).a
    ∷ term_row v (query_of s).b
    ∷ absent_row s
    ∷ rows_in_turn (entry_rows v s) 1 (entries s - 1)
    ++ first_step_row s
    ∷ rows_in_turn (next_step_rows s) 1 (entries s - 1)

abbrev pub script_table : List ℕ → List ℕ → List Row
script_table v s = vocabulary_table v ++ form_table v s ++ chain_table v s (chain s)

-- No row of a table applies.
abbrev pub NoneApplies : List Row → Type 0
NoneApplies [] = Unit {0}
NoneApplies (r ∷ rows) = (r.applies ≡ false) × NoneApplies rows

-- "A vocabulary is accepted when no refusal of the vocabulary check applies to it (here 1 to 8)", and 28
abbrev pub AcceptedVocabulary : List ℕ → Type 0
AcceptedVocabulary v = NoneApplies (vocabulary_table v)

-- "its terms are its records of kinds 1 to 8": row 10 does not apply.
abbrev pub TermOf : List ℕ → ℕ → Type 0
TermOf v x = NoneApplies (term_row v x ∷ [])

-- "A script keeps the form when none of 13, 14, 10 and 15 to 19 applies"
abbrev pub InForm : List ℕ → List ℕ → Type 0
InForm v s = NoneApplies (form_table v s)

-- "The first that applies in table order is given": a row with number n and place p applies, and none before it does.
pub record Refuses (rows : List Row) (n p : ℕ) : Type 0 where
  pub before : List Row
  pub after : List Row
  pub splits : rows ≡ before ++ (row n p true ∷ after)
  pub clear : NoneApplies before

-- "and never otherwise": the answer is a refusal exactly when the table refuses so, and a value exactly when no row applies.
pub record Follows {A : Type 0} (rows : List Row) (value : A) (answer : Outcome A) : Type 0 where
  pub refused_only : (n p : ℕ) → answer ≡ refused n p → Refuses rows n p
  pub refused_always : (n p : ℕ) → Refuses rows n p → answer ≡ refused n p
  pub accepted_only : (x : A) → answer ≡ accepted x → NoneApplies rows × (x ≡ value)
  pub accepted_always : NoneApplies rows → answer ≡ accepted value
