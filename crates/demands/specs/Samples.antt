-- Samples 1 to 9 of paper 01, from the bytes of their vocabularies and scripts, as "a joint table": answers, counts, and of the
-- comparison the first two bytes of the buffer. "Every statement in these samples is on the chain." After them cases worked by
-- hand: of the classification the counts and the entries; scripts with repeated terms; of the writer the new length and the whole
-- buffer; headers of both editions; a question for each refusal that has none before.
use Rattle.std.specs.Prelude.{ℕ, zero, suc, ◌*◌, ◌≡◌, List, [], ◌∷◌, map, length, take, replicate}
use Rattle.records.specs.Outcome.{Outcome, accepted, refused}
use Rattle.records.specs.Check.{vocabulary_check}
use Rattle.records.specs.Call.{record_call}
use Rattle.writer.specs.Additions.{Addition, term, statement}
use Rattle.writer.specs.Calls.{making, adding, new_length, buffer_after}
use Rattle.types.specs.declared.answers.Counts.{Counts}
use Rattle.types.specs.Comparison.{Verdict, equal, different, counts_of, comparison}
use Rattle.types.specs.Bitmap.{written}
use Rattle.taxonomy.specs.Taxonomy.{name_count, classification, second_after}
use Rattle.scripts.specs.Run.{script_check}

-- the eight bytes of a vocabulary record, and the sixteen of a script record in two halves, whose numbers are under 256
abbrev pub fields : ℕ → ℕ → ℕ → ℕ → List ℕ → List ℕ
fields kind a b next rest = kind ∷ 0 ∷ a ∷ 0 ∷ b ∷ 0 ∷ next ∷ 0 ∷ rest

abbrev pub words : ℕ → ℕ → ℕ → ℕ → List ℕ → List ℕ
words a b c d rest = a ∷ 0 ∷ b ∷ 0 ∷ c ∷ 0 ∷ d ∷ 0 ∷ rest

-- the records of a vocabulary
abbrev pub header : ℕ → ℕ → List ℕ → List ℕ
header first roles rest = 16 ∷ 1 ∷ first ∷ 0 ∷ roles ∷ 0 ∷ 0 ∷ 0 ∷ rest

-- one of edition 2, which holds k
abbrev pub holding : ℕ → ℕ → ℕ → List ℕ → List ℕ
holding first roles k rest = 16 ∷ 2 ∷ first ∷ 0 ∷ roles ∷ 0 ∷ k ∷ 0 ∷ rest

abbrev pub top : List ℕ → List ℕ
top rest = fields 1 0 0 0 rest

abbrev pub bottom : List ℕ → List ℕ
bottom rest = fields 2 0 0 0 rest

abbrev pub name : ℕ → List ℕ → List ℕ
name label rest = fields 3 label 0 0 rest

abbrev pub negation : ℕ → List ℕ → List ℕ
negation a rest = fields 4 a 0 0 rest

abbrev pub conjunction : ℕ → ℕ → List ℕ → List ℕ
conjunction a b rest = fields 5 a b 0 rest

abbrev pub disjunction : ℕ → ℕ → List ℕ → List ℕ
disjunction a b rest = fields 6 a b 0 rest

abbrev pub existential : ℕ → ℕ → List ℕ → List ℕ
existential role b rest = fields 7 role b 0 rest

abbrev pub universal : ℕ → ℕ → List ℕ → List ℕ
universal role b rest = fields 8 role b 0 rest

abbrev pub within : ℕ → ℕ → ℕ → List ℕ → List ℕ
within a b next rest = fields 9 a b next rest

-- the records of a script
abbrev pub asking : ℕ → ℕ → ℕ → List ℕ → List ℕ
asking a b first rest = words 32 a b first (words 0 0 0 0 rest)

abbrev pub constant : List ℕ → List ℕ
constant rest = words 1 0 0 0 (words 0 0 0 0 rest)

abbrev pub function : ℕ → ℕ → List ℕ → List ℕ
function i t rest = words 2 i t 0 (words 0 0 0 0 rest)

abbrev pub start : ℕ → ℕ → List ℕ → List ℕ
start column next rest = words 3 column 0 0 (words 0 0 0 next rest)

abbrev pub extension : ℕ → ℕ → ℕ → ℕ → ℕ → List ℕ → List ℕ
extension owner column x position next rest = words 4 owner column x (words 0 position 0 next rest)

abbrev pub reduction : ℕ → ℕ → List ℕ → List ℕ
reduction frame next rest = words 5 frame 0 0 (words 0 0 0 next rest)

-- A vocabulary to check, a record to find, a comparison of two terms with bytes lent, a script to check, names to classify with
-- bytes lent for survivors and table, a buffer for an empty vocabulary with a number of roles, or one with a length in use for an
-- addition.
pub data Question : Type 0 where
  reads : List ℕ → Question
  finds : List ℕ → ℕ → Question
  compares : List ℕ → ℕ → ℕ → ℕ → Question
  checks : List ℕ → List ℕ → Question
  classifies : List ℕ → ℕ → ℕ → Question
  makes : List ℕ → ℕ → Question
  adds : List ℕ → ℕ → Addition → Question

pub data Answer : Type 0 where
  verdicts : Outcome Verdict → List ℕ → Answer
  judgments : Outcome ℕ → Answer
  tables : Outcome Counts → List ℕ → Answer
  buffers : Outcome ℕ → List ℕ → Answer

-- n bytes that are lent, before the call
abbrev pub untouched : ℕ → List ℕ
untouched n = replicate n 99

abbrev pub answer : Question → Answer
answer (reads v) = judgments (vocabulary_check v)
answer (finds v number) = judgments (record_call v number)
answer (compares v a b n) = verdicts (comparison v a b n) (take 2 (written (comparison v a b n) v (untouched n)))
answer (checks v s) = judgments (script_check v s)
answer (classifies v n m) =
    tables (classification v n m) (take (name_count v * name_count v) (second_after v (untouched n) (untouched m)))
answer (makes lent roles) =
    buffers (new_length (making (length lent) roles)) (buffer_after (making (length lent) roles) lent)
answer (adds buffer used x) = buffers (new_length (adding buffer used x)) (buffer_after (adding buffer used x) buffer)

abbrev pub says : Verdict → ℕ → ℕ → Answer
says x first second = verdicts (accepted x) (first ∷ second ∷ [])

-- "V: names 1, 2, 3; 4 = 1 and 2; 5: 4 within 3."
abbrev pub V₁ : List ℕ
V₁ = header 5 0 (name 1 (name 2 (name 3 (conjunction 1 2 (within 4 3 0 [])))))

-- "V with 6: 3 within 4 chained"
abbrev pub V₂ : List ℕ
V₂ = header 5 0 (name 1 (name 2 (name 3 (conjunction 1 2 (within 4 3 6 (within 3 4 0 []))))))

-- "Name 1; 2 some role 0 to 1; 3: 1 within 2; 4 bottom"
abbrev pub V₃ : List ℕ
V₃ = header 3 1 (name 1 (existential 0 1 (within 1 2 0 (bottom []))))

-- "Bottom 1; 2 some role 0 to 1"
abbrev pub V₄ : List ℕ
V₄ = header 0 1 (bottom (existential 0 1 []))

-- "Top 1, bottom 2, 3: 1 within 2"
abbrev pub V₅ : List ℕ
V₅ = header 3 0 (top (bottom (within 1 2 0 [])))

-- "Names 1, 2; 3 some role 0 to 2; 4 all role 0 to 2; 5: 1 within 3; 6: 4 within 1; 7 top"
abbrev pub V₆ : List ℕ
V₆ = header 5 1 (name 1 (name 2 (existential 0 2 (universal 0 2 (within 1 3 6 (within 4 1 0 (top [])))))))

-- "query 4 within 3: start 1; extension owner 5, column 0, x = a, position 1; extension owner 0, column 0, position 0"
abbrev pub S₇ : List ℕ
S₇ = asking 4 3 2 (constant (start 1 3 (extension 5 0 1 1 4 (extension 0 0 1 0 0 []))))

-- "The same without its last step"
abbrev pub S₈ : List ℕ
S₈ = asking 4 3 2 (constant (start 1 3 (extension 5 0 1 1 0 [])))

-- "query 2 within 1: start 0; owner 2, column 1, x = a, position 0; owner 1, column 0, x = f2(a), position 0", the last x, of
-- which there are two, left open
abbrev pub S₉ : ℕ → List ℕ
S₉ x = asking 2 1 3 (constant (function 2 1 (start 0 4 (extension 2 1 1 0 5 (extension 1 0 x 0 0 [])))))

-- Names 1, 2, 3; 4: 1 within 2.
abbrev pub W₁ : List ℕ
W₁ = header 4 0 (name 1 (name 2 (name 3 (within 1 2 0 []))))

-- The same with 5: 2 within 3 chained. 3 is broader than 1, and not nearest.
abbrev pub W₂ : List ℕ
W₂ = header 4 0 (name 1 (name 2 (name 3 (within 1 2 5 (within 2 3 0 [])))))

-- The same with 6: 3 within 2 chained. 2 and 3 are equal, and both are nearest to 1.
abbrev pub W₃ : List ℕ
W₃ = header 4 0 (name 1 (name 2 (name 3 (within 1 2 5 (within 2 3 6 (within 3 2 0 []))))))

-- Names 1, 2; top 3, bottom 4, 5: 3 within 4. No interpretation satisfies this, so the two are equal in every one that does.
abbrev pub W₄ : List ℕ
W₄ = header 5 0 (name 1 (name 2 (top (bottom (within 3 4 0 [])))))

-- Bottom 1; 2 some role 0 to 1; 3 some role 0 to 2.
abbrev pub W₅ : List ℕ
W₅ = header 0 1 (bottom (existential 0 1 (existential 0 2 [])))

-- Terms 2 and 3: f3(a); 4 and 5: f2 of each; 6: f2(a); 7: f2 of that. Query 3 within 1: start 0; owner 3, column 1, x = a;
-- owner 2, column 1, x = f3(a) under record 3; owner 1, column 0, x left open: f2(f3(a)) has two records, and 7 differs from it
-- in the inner function alone.
abbrev pub R₁ : ℕ → List ℕ
R₁ x =
    asking 3 1 8 (constant (function 3 1 (function 3 1 (function 2 2 (function 2 3 (function 2 1 (function 2 6 (start 0 9
    (extension 3 1 1 0 10 (extension 2 1 3 0 11 (extension 1 0 x 0 0 [])))))))))))

-- "The constant still has one record."
abbrev pub R₂ : List ℕ
R₂ = asking 3 1 3 (constant (constant (start 0 0 [])))

-- Top 1; name 2; 3 not 2; 4 = 2 or 3; 5 all role 0 to 4.
abbrev pub W₆ : List ℕ
W₆ = header 0 1 (top (name 1 (negation 2 (disjunction 2 3 (universal 0 4 [])))))

-- Terms 2, 3 and 4: f5(a). Query 1 within 5: start 1; owner 5, column 1, x = a; then x = f5(a), under another record each time:
-- owner 4, column 0; owner 3, column 1; owner 4, column 1. The last goal has its complement as the goal of frame 1, whose f5(a)
-- is the column's and no record's.
abbrev pub R₃ : List ℕ
R₃ =
    asking 1 5 5 (constant (function 5 1 (function 5 1 (function 5 1 (start 1 6 (extension 5 1 1 0 7 (extension 4 0 2 0 8
    (extension 3 1 3 1 9 (extension 4 1 4 1 10 (reduction 1 0 []))))))))))

-- Eight bytes that are free.
abbrev pub free : List ℕ → List ℕ
free rest = 99 ∷ 99 ∷ 99 ∷ 99 ∷ 99 ∷ 99 ∷ 99 ∷ 99 ∷ rest

-- Name 1; statement 2, and behind it statement 3 off the chain; then what is behind the vocabulary, of 32 bytes.
abbrev pub B₁ : ℕ → ℕ → List ℕ → List ℕ
B₁ first next rest = header first 0 (name 1 (within 1 1 next (within 1 1 0 rest)))

-- V₁ in edition 2, with this first statement, holding k.
abbrev pub E₁ : ℕ → ℕ → List ℕ
E₁ first k = holding first 0 k (name 1 (name 2 (name 3 (conjunction 1 2 (within 4 3 0 [])))))

-- An edition 1 header that holds k; name 1.
abbrev pub E₂ : ℕ → List ℕ
E₂ k = 16 ∷ 1 ∷ 0 ∷ 0 ∷ 0 ∷ 0 ∷ k ∷ 0 ∷ name 1 []

-- Name 1; 2 some role 0 to 1; 3 all role 0 to 1; 4 not 1.
abbrev pub E₃ : ℕ → List ℕ
E₃ k = holding 0 1 k (name 1 (existential 0 1 (universal 0 1 (negation 1 []))))

-- Thirteen names.
abbrev pub N₁ : List ℕ
N₁ =
    header 0 0 (name 1 (name 2 (name 3 (name 4 (name 5 (name 6 (name 7 (name 8 (name 9 (name 10 (name 11 (name 12
    (name 13 [])))))))))))))

-- Query 4 within 3 with a script's other records behind the constant.
abbrev pub Q₁ : ℕ → List ℕ → List ℕ
Q₁ first rest = asking 4 3 first (constant rest)

-- S₇, and a reduction after all is closed.
abbrev pub Q₂ : List ℕ
Q₂ = Q₁ 2 (start 1 3 (extension 5 0 1 1 4 (extension 0 0 1 0 5 (reduction 0 0 []))))

-- Name 1; 2: 1 within 1.
abbrev pub L₁ : List ℕ
L₁ = header 2 0 (name 1 (within 1 1 0 []))

-- n extensions with owner 2, from record i on: column {C1(x), ¬C1(x)} opens a frame each time.
unfoldable pub opening : ℕ → ℕ → List ℕ → List ℕ
opening zero i rest = rest
opening (suc n) i rest = extension 2 0 1 0 (suc i) (opening n (suc i) rest)

-- Query 1 within 1: start 0, then 63 such extensions, so that 64 frames are open, and what comes after them.
abbrev pub L₂ : List ℕ → List ℕ
L₂ rest = asking 1 1 2 (constant (start 0 3 (opening 63 3 rest)))

abbrev pub asked : List Question
asked =
    compares V₁ 4 3 512
    ∷ compares V₂ 4 3 512
    ∷ compares V₃ 1 4 512
    ∷ compares V₄ 1 2 512
    ∷ compares V₅ 1 2 512
    ∷ compares V₆ 1 7 512
    ∷ checks V₁ S₇
    ∷ checks V₁ S₈
    ∷ checks V₄ (S₉ 2)
    ∷ checks V₄ (S₉ 1)
    ∷ classifies W₁ 512 144
    ∷ classifies W₂ 512 144
    ∷ classifies W₃ 512 144
    ∷ classifies W₄ 512 144
    ∷ checks W₅ (R₁ 4)
    ∷ checks W₅ (R₁ 5)
    ∷ checks W₅ (R₁ 7)
    ∷ checks W₅ R₂
    ∷ checks W₆ R₃
    ∷ makes (free (7 ∷ [])) 2
    ∷ makes (7 ∷ 7 ∷ 7 ∷ 7 ∷ 7 ∷ 7 ∷ 7 ∷ []) 65
    ∷ makes (free []) 65
    ∷ adds (header 0 0 (free (7 ∷ []))) 8 (term 3 258 0)
    ∷ adds (B₁ 2 0 (free [])) 32 (statement 1 1)
    ∷ adds (B₁ 0 0 (free [])) 32 (statement 1 1)
    ∷ adds (B₁ 2 0 (free [])) 32 (term 3 1 0)
    ∷ adds (B₁ 2 0 (free [])) 32 (term 9 1 1)
    ∷ adds (B₁ 2 0 (7 ∷ [])) 32 (term 9 1 1)
    ∷ adds (B₁ 2 0 (free [])) 41 (term 1 0 0)
    ∷ reads (E₁ 5 3)
    ∷ reads (E₁ 5 4)
    ∷ reads (E₁ 4 4)
    ∷ reads (E₂ 0)
    ∷ reads (E₂ 1)
    ∷ reads (E₃ 3)
    ∷ reads (E₃ 2)
    ∷ compares (E₁ 5 3) 4 3 512
    ∷ checks (E₁ 5 3) S₇
    ∷ checks (E₁ 5 0) []
    ∷ adds (holding 0 0 0 (free (7 ∷ []))) 8 (term 3 258 0)
    ∷ adds (holding 0 0 0 (free [])) 8 (term 1 0 0)
    ∷ adds (holding 0 0 1 (name 1 (free []))) 16 (statement 1 1)
    ∷ adds (holding 0 0 1 (name 1 (free []))) 16 (term 3 1 0)
    ∷ adds (holding 0 0 2 (name 1 [])) 16 (term 3 1 0)
    ∷ reads (header 0 0 (fields 3 1 1 0 []))
    ∷ reads (header 0 0 (top (negation 2 [])))
    ∷ reads (header 0 1 (top (existential 1 1 [])))
    ∷ finds V₁ 5
    ∷ finds V₁ 6
    ∷ compares V₁ 4 5 512
    ∷ compares N₁ 1 2 512
    ∷ compares V₁ 4 3 511
    ∷ classifies W₁ 512 143
    ∷ checks V₁ []
    ∷ checks V₁ (words 32 4 3 0 (words 1 0 0 0 []))
    ∷ checks V₁ (Q₁ 0 (words 0 0 0 0 (words 0 0 0 0 [])))
    ∷ checks V₁ (Q₁ 2 (words 3 0 1 0 (words 0 0 0 0 [])))
    ∷ checks V₁ (Q₁ 2 (start 2 0 []))
    ∷ checks V₁ (Q₁ 1 [])
    ∷ checks V₁ (Q₁ 0 [])
    ∷ checks V₁ (Q₁ 2 (start 0 3 (reduction 0 0 [])))
    ∷ checks V₁ Q₂
    ∷ checks L₁ (L₂ (extension 0 1 1 0 0 []))
    ∷ checks L₁ (L₂ (extension 2 0 1 0 0 []))
    ∷ []

abbrev pub answered : List Answer
answered =
    says (different 4 7 0) 247 0
    ∷ says (equal 4 0) 135 0
    ∷ says (different 3 3 0) 13 0
    ∷ says (equal 1 1) 1 0
    ∷ says (equal 0 0) 0 0
    ∷ says (different 0 8 0) 245 160
    ∷ judgments (accepted 3)
    ∷ judgments (refused 24 3)
    ∷ judgments (accepted 3)
    ∷ judgments (refused 21 5)
    ∷ tables (accepted (counts_of 6 0)) (2 ∷ 1 ∷ 0 ∷ 0 ∷ 2 ∷ 0 ∷ 0 ∷ 0 ∷ 2 ∷ [])
    ∷ tables (accepted (counts_of 4 0)) (2 ∷ 1 ∷ 0 ∷ 0 ∷ 2 ∷ 1 ∷ 0 ∷ 0 ∷ 2 ∷ [])
    ∷ tables (accepted (counts_of 3 0)) (2 ∷ 1 ∷ 1 ∷ 0 ∷ 2 ∷ 2 ∷ 0 ∷ 2 ∷ 2 ∷ [])
    ∷ tables (accepted (counts_of 0 0)) (2 ∷ 2 ∷ 2 ∷ 2 ∷ [])
    ∷ judgments (accepted 4)
    ∷ judgments (accepted 4)
    ∷ judgments (refused 21 11)
    ∷ judgments (refused 17 2)
    ∷ judgments (accepted 6)
    ∷ buffers (accepted 8) (holding 0 2 0 (7 ∷ []))
    ∷ buffers (refused 27 0) (7 ∷ 7 ∷ 7 ∷ 7 ∷ 7 ∷ 7 ∷ 7 ∷ [])
    ∷ buffers (refused 2 0) (free [])
    ∷ buffers (accepted 16) (header 0 0 (3 ∷ 0 ∷ 2 ∷ 1 ∷ 0 ∷ 0 ∷ 0 ∷ 0 ∷ 7 ∷ []))
    ∷ buffers (accepted 40) (B₁ 2 4 (within 1 1 0 []))
    ∷ buffers (accepted 40) (B₁ 4 0 (within 1 1 0 []))
    ∷ buffers (refused 7 4) (B₁ 2 0 (free []))
    ∷ buffers (refused 3 4) (B₁ 2 0 (free []))
    ∷ buffers (refused 27 4) (B₁ 2 0 (7 ∷ []))
    ∷ buffers (refused 1 0) (B₁ 2 0 (free []))
    ∷ judgments (accepted 6)
    ∷ judgments (refused 28 3)
    ∷ judgments (refused 8 0)
    ∷ judgments (accepted 2)
    ∷ judgments (refused 2 0)
    ∷ judgments (accepted 5)
    ∷ judgments (refused 28 3)
    ∷ says (different 4 7 0) 247 0
    ∷ judgments (accepted 3)
    ∷ judgments (refused 28 3)
    ∷ buffers (accepted 16) (holding 0 0 1 (3 ∷ 0 ∷ 2 ∷ 1 ∷ 0 ∷ 0 ∷ 0 ∷ 0 ∷ 7 ∷ []))
    ∷ buffers (accepted 16) (holding 0 0 0 (top []))
    ∷ buffers (accepted 24) (holding 2 0 1 (name 1 (within 1 1 0 [])))
    ∷ buffers (refused 7 2) (holding 0 0 1 (name 1 (free [])))
    ∷ buffers (refused 28 1) (holding 0 0 2 (name 1 []))
    ∷ judgments (refused 4 1)
    ∷ judgments (refused 5 2)
    ∷ judgments (refused 6 2)
    ∷ judgments (accepted 40)
    ∷ judgments (refused 9 6)
    ∷ verdicts (refused 10 5) (untouched 2)
    ∷ verdicts (refused 11 13) (untouched 2)
    ∷ verdicts (refused 12 0) (untouched 2)
    ∷ tables (refused 26 0) (untouched 9)
    ∷ judgments (refused 13 0)
    ∷ judgments (refused 14 0)
    ∷ judgments (refused 15 2)
    ∷ judgments (refused 16 2)
    ∷ judgments (refused 18 2)
    ∷ judgments (refused 19 0)
    ∷ judgments (refused 20 0)
    ∷ judgments (refused 22 3)
    ∷ judgments (refused 25 5)
    ∷ judgments (accepted 65)
    ∷ judgments (refused 23 66)
    ∷ []

abbrev pub Samples : Type 0
Samples = map answer asked ≡ answered
