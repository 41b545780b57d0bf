-- Rows 13 to 19 of the table of refusals: the form of a script.
use Rattle.std.specs.Prelude.{ℕ, ◌-◌, ◌%◌, Bool, true, false, not, ◌&&◌, ◌||◌, List, [], ◌∷◌, length, ltb, leb, eqb}
use Rattle.std.specs.Bool.{beq}
use Rattle.records.specs.Finite.{all_zero}
use Rattle.records.specs.Outcome.{Check, ◌then◌, require, in_turn}
use Rattle.records.specs.Format.{record_at, count}
use Rattle.records.specs.Kinds.{is_restriction}
use Rattle.types.specs.Comparison.{term_check}
use Rattle.columns.specs.Columns.{Query, Column, column_at, takes_y}
use Rattle.scripts.specs.Steps.{Extension, Step, start, extension, reduction}
use Rattle.scripts.specs.Format.{entry_at, entries, query_of, first_step, Line, blank, theConstant}
use Rattle.scripts.specs.Format.{applied, step, kind_of, line_of, is_term, is_step, next_step}
use Rattle.scripts.specs.declared.entry.Entry.{Entry}

-- Row 13: "under 16, over 32,768 or no multiple of 16"
abbrev pub length_fits : List ℕ → Bool
length_fits s = leb 16 (length s) && (leb (length s) 32768 && eqb (length s % 16) 0)

abbrev pub length_check : List ℕ → Check
length_check s = require (length_fits s) 13 0

-- Row 14: "w0, or w4 to w7"; "Record 0: w0 = 32"
abbrev pub header_fits : Entry → Bool
header_fits e = eqb e.w0 32 && all_zero (e.w4 ∷ e.w5 ∷ e.w6 ∷ e.w7 ∷ [])

abbrev pub header_check : List ℕ → Check
header_check s = require (header_fits (entry_at s 0)) 14 0

-- Row 10: "Query A, then B"
abbrev pub query_terms_check : List ℕ → Query → Check
query_terms_check v q = term_check v q.a then term_check v q.b

-- Row 15: "kind not 1 to 5"
abbrev pub kind_fits : Entry → Bool
kind_fits e = leb 1 e.w0 && leb e.w0 5

-- Row 16: "unused word not zero"
abbrev pub unused_fits : Entry → Bool
unused_fits e = all_zero ((kind_of e.w0).unused e)

-- "an earlier term record"
abbrev pub earlier_term : List ℕ → ℕ → ℕ → Bool
earlier_term s i t = ltb t i && is_term (entry_at s t).w0

-- "w1 = i, of kind 7 or 8"
abbrev pub is_function : List ℕ → ℕ → Bool
is_function v f = ltb f (count v) && is_restriction (record_at v f).kind

abbrev pub is_constant : Line → Bool
is_constant blank = false
is_constant theConstant = true
is_constant (applied f t) = false
is_constant (step t) = false

-- "the term fi(t): w1 = i, of kind 7 or 8, w2 = t, an earlier term record". Paper 02, slip 3: "Let a repeat of kind 2 through."
abbrev pub function_fits : List ℕ → List ℕ → ℕ → Line → Bool
function_fits v s i blank = true
function_fits v s i theConstant = true
function_fits v s i (applied f t) = is_function v f && earlier_term s i t
function_fits v s i (step t) = true

-- Row 17: "term rule; record 1 .. not the constant"; "the constant a, record 1 only"; slip 3: "still has one record".
abbrev pub term_fits : List ℕ → List ℕ → ℕ → Line → Bool
term_fits v s i l = beq (is_constant l) (eqb i 1) && function_fits v s i l

-- "w3 or a needed w4 not an earlier term record, w3 not 1 for owner 0, w4 not 0 without y"
abbrev pub x_fits : List ℕ → ℕ → ℕ → ℕ → Bool
x_fits s i owner x = earlier_term s i x && (not (eqb owner 0) || eqb x 1)

abbrev pub y_fits : List ℕ → ℕ → Bool → ℕ → Bool
y_fits s i true y = earlier_term s i y
y_fits s i false y = eqb y 0

-- "extension's owner, column or position not one that exists", "or a statement off the chain": that one has no column.
abbrev pub column_fits : List ℕ → ℕ → Extension ℕ → Column → Bool
column_fits s i e c =
    ltb e.position (length c) && (x_fits s i e.owner e.first && y_fits s i (takes_y c) e.second)

abbrev pub extension_fits : List ℕ → List ℕ → ℕ → Query → Extension ℕ → Bool
extension_fits v s i q e = column_fits s i e (column_at v q e.owner e.column)

-- Row 18; "start's w1 over 1"
abbrev pub step_fits : List ℕ → List ℕ → ℕ → Step ℕ → Bool
step_fits v s i (start n) = leb n 1
step_fits v s i (extension e) = extension_fits v s i (query_of s) e
step_fits v s i (reduction f) = true

abbrev pub line_fits : List ℕ → List ℕ → ℕ → Line → Bool
line_fits v s i blank = true
line_fits v s i theConstant = true
line_fits v s i (applied f t) = true
line_fits v s i (step t) = step_fits v s i t

-- Rows 15 to 18, at one record
abbrev pub rows_check : List ℕ → List ℕ → ℕ → Entry → Check
rows_check v s i e =
    require (kind_fits e) 15 i
    then require (unused_fits e) 16 i
    then require (term_fits v s i (line_of e)) 17 i
    then require (line_fits v s i (line_of e)) 18 i

unfoldable pub entry_check : List ℕ → List ℕ → ℕ → Check
entry_check v s i = rows_check v s i (entry_at s i)

-- "Each script record in turn"; row 17 "1 if absent": record 1
abbrev pub entries_check : List ℕ → List ℕ → Check
entries_check v s = require (ltb 1 (entries s)) 17 1 then in_turn (entry_check v s) 1 (entries s - 1)

-- Row 19: "not 0 and not a later step"
abbrev pub link_fits : List ℕ → ℕ → ℕ → Bool
link_fits s i x = eqb x 0 || (ltb i x && (ltb x (entries s) && is_step (entry_at s x).w0))

abbrev pub next_fits : List ℕ → ℕ → Bool
next_fits s i = not (is_step (entry_at s i).w0) || link_fits s i (next_step s i)

unfoldable pub link_check : List ℕ → ℕ → Check
link_check s i = require (next_fits s i) 19 i

-- "w3, then each step's next"
abbrev pub links_check : List ℕ → Check
links_check s = require (link_fits s 0 (first_step s)) 19 0 then in_turn (link_check s) 1 (entries s - 1)

-- "A script keeps the form when none of 13, 14, 10 and 15 to 19 applies".
unfoldable pub form_check : List ℕ → List ℕ → Check
form_check v s =
    length_check s then header_check s then query_terms_check v (query_of s) then entries_check v s then links_check s
