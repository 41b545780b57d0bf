-- The bytes of a script, and what its records say.
use Rattle.std.specs.Prelude.{ℕ, ◌*◌, ◌/◌, Bool, ◌&&◌, ◌||◌, List, [], ◌∷◌, length, get_or, take, drop, leb, eqb}
use Rattle.records.specs.Format.{word_at}
use Rattle.records.specs.Chain.{follow}
use Rattle.records.specs.Finite.{in_record_order}
use Rattle.columns.specs.Literals.{SkolemTerm, constant, apply}
use Rattle.columns.specs.Columns.{Query, within}
use Rattle.scripts.specs.Steps.{Extension, Step, start, extension, reduction}
use Rattle.scripts.specs.declared.entry.Entry.{Entry}

-- "A script record is eight numbers w0 to w7, 16 bytes"
abbrev pub entry_of : List ℕ → Entry
entry_of p =
    record {
      w0 = word_at p 0;
      w1 = word_at p 2;
      w2 = word_at p 4;
      w3 = word_at p 6;
      w4 = word_at p 8;
      w5 = word_at p 10;
      w6 = word_at p 12;
      w7 = word_at p 14;
    }

abbrev pub entry_size : ℕ
entry_size = 16

-- the sixteen bytes of record i
abbrev pub part_at : List ℕ → ℕ → List ℕ
part_at s i = take entry_size (drop (entry_size * i) s)

unfoldable pub entry_at : List ℕ → ℕ → Entry
entry_at s i = entry_of (part_at s i)

-- the number of records, header included
abbrev pub entries : List ℕ → ℕ
entries s = length s / entry_size

-- "at most 2,048 records": row 13 has their bytes, 32,768.
abbrev pub entry_limit : ℕ
entry_limit = 2048

-- "Record 0: .. w1 and w2 the query's A and B, w3 the first step or 0."
abbrev pub query_in : Entry → Query
query_in e = within e.w1 e.w2

abbrev pub query_of : List ℕ → Query
query_of s = query_in (entry_at s 0)

abbrev pub first_step : List ℕ → ℕ
first_step s = (entry_at s 0).w3

-- What a record says, by record numbers: "1. the constant a", "2. the term fi(t): w1 = i .., w2 = t", or a step.
pub data Line : Type 0 where
  blank theConstant : Line
  applied : ℕ → ℕ → Line
  step : Step ℕ → Line

-- "4. extension: w1 owner, w2 column, w3 and w4 the .. term records for x and y .., w5 position"
abbrev pub extension_of : Entry → Extension ℕ
extension_of e = record { owner = e.w1; column = e.w2; first = e.w3; second = e.w4; position = e.w5 }

-- A kind of records: the words it does not use ("Steps have next in w7. Other words are zero."), and what a record says.
pub record Kind : Type 0 where
  pub unused : Entry → List ℕ
  pub says : Entry → Line

abbrev pub kind : (Entry → List ℕ) → (Entry → Line) → Kind
kind unused says = record { unused = unused; says = says }

abbrev pub no_kind : Kind
no_kind = kind (λ e. []) (λ e. blank)

abbrev pub step_unused : Entry → List ℕ
step_unused e = e.w2 ∷ e.w3 ∷ e.w4 ∷ e.w5 ∷ e.w6 ∷ []

-- "Others have the kind in w0": the kinds from 0 on. "3. start: w1 = 0 or 1, the query column", "5. reduction: w1 the frame".
abbrev pub kinds : List Kind
kinds =
    no_kind
    ∷ kind (λ e. e.w1 ∷ e.w2 ∷ e.w3 ∷ e.w4 ∷ e.w5 ∷ e.w6 ∷ e.w7 ∷ []) (λ e. theConstant)
    ∷ kind (λ e. e.w3 ∷ e.w4 ∷ e.w5 ∷ e.w6 ∷ e.w7 ∷ []) (λ e. applied e.w1 e.w2)
    ∷ kind step_unused (λ e. step (start e.w1))
    ∷ kind (λ e. e.w6 ∷ []) (λ e. step (extension (extension_of e)))
    ∷ kind step_unused (λ e. step (reduction e.w1))
    ∷ []

unfoldable pub kind_of : ℕ → Kind
kind_of k = get_or kinds k no_kind

abbrev pub line_of : Entry → Line
line_of e = (kind_of e.w0).says e

abbrev pub line_at : List ℕ → ℕ → Line
line_at s i = line_of (entry_at s i)

abbrev pub is_term : ℕ → Bool
is_term k = eqb k 1 || eqb k 2

abbrev pub is_step : ℕ → Bool
is_step k = leb 3 k && leb k 5

-- The term of a record, "written out"; only terms are asked for theirs. Paper 02, slip 3: "Two term records are the same when
-- their function and inner term are the same, all the way to the constant".
abbrev pub term_of : Line → (ℕ → SkolemTerm) → SkolemTerm
term_of blank earlier = constant
term_of theConstant earlier = constant
term_of (applied i t) earlier = apply i (earlier t)
term_of (step t) earlier = constant

unfoldable pub term_at : List ℕ → ℕ → SkolemTerm
term_at s i = in_record_order constant (λ earlier j. term_of (line_at s j) earlier) i

-- The step of a record, by record numbers; no other record is on the chain.
abbrev pub step_of : Line → Step ℕ
step_of blank = start 0
step_of theConstant = start 0
step_of (applied i t) = start 0
step_of (step t) = t

abbrev pub record_step : List ℕ → ℕ → Step ℕ
record_step s i = step_of (line_at s i)

-- "Steps have next in w7."
abbrev pub next_step : List ℕ → ℕ → ℕ
next_step s i = (entry_at s i).w7

abbrev pub chain_from : List ℕ → ℕ → List ℕ
chain_from s i = follow (next_step s) (entries s) i

-- The steps, by record number, in their order.
abbrev pub chain : List ℕ → List ℕ
chain s = chain_from s (first_step s)
