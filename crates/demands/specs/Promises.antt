-- What the papers promise beside the demands: paper 01 of chains and of survivors, and each request of paper 02. Statements
-- over the definitions of the crates below and nothing else; proofs/Theorems/Promises.antt proves each. The contracts of
-- src/lib.rt carry them to the calls, as they do the demands.
use Rattle.std.specs.Prelude.{ℕ, ◌+◌, ◌*◌, ◌≤◌, ◌<◌, ◌≡◌, true, List, [], ◌∷◌, ◌++◌, ◌⊎◌, length, get_or, take, drop}
use Rattle.records.specs.Outcome.{accepted}
use Rattle.records.specs.Format.{word_at, record_bytes, count, first_statement, role_count, edition, atoms_held}
use Rattle.records.specs.Chain.{follow, next_statement, chain}
use Rattle.records.specs.Check.{vocabulary_check}
use Rattle.records.specs.Atoms.{atoms}
use Rattle.records.specs.Finite.{members}
use Rattle.writer.specs.Additions.{Addition, term, statement, new_record, link_place, grown, contents, stated, statements_of}
use Rattle.writer.specs.Calls.{empty_header, making, is_addable, adding, new_length, buffer_after}
use Rattle.types.specs.Meaning.{Interpretation, Model, AlwaysEqual}
use Rattle.types.specs.Survivors.{survivors, rounds, Largest}
use Rattle.types.specs.Comparison.{Verdict, equal, counts, comparison}
use Rattle.types.specs.declared.answers.Counts.{Counts}
use Rattle.types.specs.Bitmap.{bitmap, written, HoldsSurvivors}
use Rattle.scripts.specs.Format as script
use Rattle.scripts.specs.Format.{entries, first_step, next_step}
use Rattle.scripts.specs.Run.{script_check}
use Rattle.alike.specs.Editions.{DifferInEdition, in_edition}
use Rattle.taxonomy.specs.Nearest.{NameOf, Nearest}
use Rattle.taxonomy.specs.Taxonomy.{names, name_count, name_at, classification, first_after, second_after}
use Rattle.demands.specs.Table.{vocabulary_table, AcceptedVocabulary, TermOf, InForm, Refuses, Follows}

-- Paper 01, "Vocabulary records" and "Scripts".

-- The promise. "Chains run by next, and zero ends the chain.": however far one follows it, the chain of an accepted vocabulary,
-- and that of a script that keeps the form, is the same. So no statement and no step is cut off.
pub record ChainsEnd : Type 0 where
  pub statements : (v : List ℕ) (n : ℕ) → AcceptedVocabulary v → count v ≤ n
      → follow (next_statement v) n (first_statement v) ≡ chain v
  pub steps : (v s : List ℕ) (n : ℕ) → InForm v s → entries s ≤ n → follow (next_step s) n (first_step s) ≡ script.chain s

-- Paper 01, "Types and comparison".

-- The promise. "The survivors are the largest set of types at which all statements hold and which serves each of its members.
-- They .. are the interpretation written, with either answer"; slip 1: "The first buffer and both counts are as in the
-- comparison." "With no survivor everything is Equal."
pub record WritesSurvivors : Type 0 where
  pub largest : (v : List ℕ) → Largest v (survivors v)
  pub compares : (v lent : List ℕ) (a b : ℕ) (x : Verdict) → comparison v a b (length lent) ≡ accepted x
      → HoldsSurvivors v (written (comparison v a b (length lent)) v lent)
  pub classifies : (v lent room : List ℕ) (x : Counts) → classification v (length lent) (length room) ≡ accepted x
      → HoldsSurvivors v (first_after v lent room)
  pub none_equal : (v : List ℕ) (a b lent : ℕ) (x : Verdict) → comparison v a b lent ≡ accepted x → members (survivors v) ≡ 0
      → x ≡ equal 0 (rounds v)

-- Slip 1, "Nearest broader names".

-- "names in record order": each number of the list is a name's, they rise, and every name's is in it.
pub record InRecordOrder (v list : List ℕ) : Type 0 where
  pub each : (i : ℕ) → i < length list → NameOf v (get_or list i 0)
  pub rising : (i j : ℕ) → i < j → j < length list → get_or list i 0 < get_or list j 0
  pub every : (a : ℕ) → NameOf v a → (i : ℕ) × (i < length list) × (get_or list i 0 ≡ a)

-- "2 if the two are equal in every finite interpretation satisfying the statements, 1 if the second is strictly broader with
-- no name strictly between, else 0": 2 and 1 exactly if so.
pub record RightEntry (v : List ℕ) (a b x : ℕ) : Type 0 where
  pub two_only : x ≡ 2 → AlwaysEqual v a b
  pub two_always : AlwaysEqual v a b → x ≡ 2
  pub one_only : x ≡ 1 → Nearest v a b
  pub one_always : Nearest v a b → x ≡ 1
  pub zero_else : (AlwaysEqual v a b → ⊥) → (Nearest v a b → ⊥) → x ≡ 0

-- The second buffer, `room` before the call and `after` it: "for all pairs of names in record order .. one byte". "Rows go by
-- the first name, one byte per name; the rest of the first 144 are zero and later bytes keep their content." With no such
-- interpretation all entries are 2.
pub record RightTable (v room after : List ℕ) : Type 0 where
  pub order : InRecordOrder v (names v)
  pub entries : (i j : ℕ) → i < name_count v → j < name_count v
      → RightEntry v (name_at v i) (name_at v j) (get_or after (i * name_count v + j) 0)
  pub contradictory : ((I : Interpretation) → Model I v → ⊥) → (i j : ℕ) → i < name_count v → j < name_count v
      → get_or after (i * name_count v + j) 0 ≡ 2
  pub rest : (n : ℕ) → name_count v * name_count v ≤ n → n < 144 → get_or after n 0 ≡ 0
  pub later : drop 144 after ≡ drop 144 room
  pub size : length after ≡ length room

-- What makes the answer right: "The first buffer and both counts are as in the comparison", that is the bitmap of the
-- survivors, whichever two terms are compared, their number and that of the rounds; and the second buffer has the right table.
pub record Tabulated (v lent room : List ℕ) : Type 0 where
  pub answers : classification v (length lent) (length room) ≡ accepted (counts v)
  pub first : first_after v lent room ≡ bitmap v ++ drop 512 lent
  pub same : (a b : ℕ) → TermOf v a → TermOf v b → first_after v lent room ≡ written (comparison v a b (length lent)) v lent
  pub second : RightTable v room (second_after v lent room)

-- The promise: of an accepted vocabulary of at most 12 atoms, with at least 512 and 144 bytes lent, the classification gives
-- the right answer.
abbrev pub NearestNames : Type 0
NearestNames =
    (v lent room : List ℕ) → AcceptedVocabulary v → atoms v ≤ 12 → 512 ≤ length lent → 144 ≤ length room
    → Tabulated v lent room

-- Slip 4, "A vocabulary writer".

-- "the link that reaches it": a statement is reached by a link, which has its number; byte i is not of that link.
abbrev pub Reached : List ℕ → Addition → List ℕ → Type 0
Reached v (term kind a b) after = Unit {0}
Reached v (statement a b) after = word_at after (link_place v) ≡ count v

abbrev pub OffLink : List ℕ → Addition → ℕ → Type 0
OffLink v (term kind a b) i = Unit {0}
OffLink v (statement a b) i = (i < link_place v) ⊎ (link_place v + 2 ≤ i)

-- "a statement at the end of the chain": the chain of w is that of v with the new statement behind it; a term leaves it.
abbrev pub AtChainEnd : List ℕ → Addition → List ℕ → Type 0
AtChainEnd v (term kind a b) w = chain w ≡ chain v
AtChainEnd v (statement a b) w = chain w ≡ chain v ++ (count v ∷ [])

-- Slip 5: "Header edition 2 (second byte 2) holds k in next. .. an addition there may also change the header's k.": byte i is
-- not of it.
abbrev pub OffCount : List ℕ → ℕ → Type 0
OffCount v i = edition v ≡ 2 → (i < 6) ⊎ (8 ≤ i)

-- "On success only the new record, and the link that reaches it, change.": the record stands behind the bytes in use, and every
-- other byte of the buffer, but for the k of an edition 2 header, is as it was. The bytes now in use are the grown ones, of the
-- same edition, and in edition 2 the header holds their k.
pub record OnlyNew (buffer : List ℕ) (used : ℕ) (x : Addition) (after : List ℕ) : Type 0 where
  pub new : take 8 (drop used after) ≡ record_bytes (new_record x)
  pub reached : Reached (take used buffer) x after
  pub kept : (i : ℕ) → (i < used) ⊎ (used + 8 ≤ i) → OffLink (take used buffer) x i → OffCount (take used buffer) i
      → get_or after i 0 ≡ get_or buffer i 0
  pub same_edition : edition (take (used + 8) after) ≡ edition (take used buffer)
  pub true_count : edition (take used buffer) ≡ 2 → word_at after 6 ≡ atoms (take (used + 8) after)
  pub size : length after ≡ length buffer
  pub grows : take (used + 8) after ≡ grown (take used buffer) x
  pub chained : AtChainEnd (take used buffer) x (take (used + 8) after)

-- There is room for one more record behind an accepted vocabulary.
pub record Roomy (buffer : List ℕ) (used : ℕ) : Type 0 where
  pub within : used ≤ length buffer
  pub accepts : AcceptedVocabulary (take used buffer)
  pub few : count (take used buffer) < 512
  pub free : used + 8 ≤ length buffer

-- "An added record that the reader would refuse gets the reader's number and place.": the call answers what the vocabulary check
-- of the grown bytes does, so that a record is added exactly when they are accepted; a refusal is at the new record.
pub record AsReader (buffer : List ℕ) (used : ℕ) (x : Addition) : Type 0 where
  pub same : Follows (vocabulary_table (grown (take used buffer) x)) (used + 8) (new_length (adding buffer used x))
  pub own : (n p : ℕ) → Refuses (vocabulary_table (grown (take used buffer) x)) n p → p ≡ count (take used buffer)

-- A list of additions that succeed, each given the length that the one before answered: from a buffer and a length in use to
-- those after them.
abbrev pub Succeed : List ℕ → ℕ → List Addition → List ℕ → ℕ → Type 0
Succeed buffer used [] after end = (after ≡ buffer) × (end ≡ used)
Succeed buffer used (x ∷ l) after end =
    (n : ℕ) × (new_length (adding buffer used x) ≡ accepted n)
    × Succeed (buffer_after (adding buffer used x) buffer) n l after end

-- "from an empty vocabulary", made in the same buffer.
pub record Built (lent : List ℕ) (roles : ℕ) (l : List Addition) (after : List ℕ) (used : ℕ) : Type 0 where
  pub start : ℕ
  pub made : new_length (making (length lent) roles) ≡ accepted start
  pub added : Succeed (buffer_after (making (length lent) roles) lent) start l after used

-- "reading the buffer shows exactly those terms and statements in their order": the vocabulary check accepts the bytes, with the
-- header and a record for each; the records from 1 on are the additions, and the statements on the chain those among them.
-- Slip 5: "The writer makes edition 2", which "holds k in next".
pub record Shows (v : List ℕ) (n : ℕ) (l : List Addition) : Type 0 where
  pub accepts : AcceptedVocabulary v
  pub counted : vocabulary_check v ≡ accepted (1 + length l)
  pub roles : role_count v ≡ n
  pub second_edition : edition v ≡ 2
  pub held : atoms_held v ≡ atoms v
  pub records : contents v ≡ l
  pub statements : stated v ≡ statements_of l

-- "a call makes an empty vocabulary with a role count": its header, and later bytes keep their content; it is accepted.
pub record MadeEmpty (lent : List ℕ) (roles n : ℕ) (after : List ℕ) : Type 0 where
  pub wrote : after ≡ record_bytes (empty_header roles) ++ drop 8 lent
  pub accepts : AcceptedVocabulary (take n after)

-- The promise.
pub record WritesVocabularies : Type 0 where
  pub makes : (lent : List ℕ) (roles n : ℕ) → new_length (making (length lent) roles) ≡ accepted n
      → MadeEmpty lent roles n (buffer_after (making (length lent) roles) lent)
  pub only : (buffer : List ℕ) (used n : ℕ) (x : Addition) → new_length (adding buffer used x) ≡ accepted n
      → OnlyNew buffer used x (buffer_after (adding buffer used x) buffer)
  pub reader : (buffer : List ℕ) (used : ℕ) (x : Addition) → Roomy buffer used → is_addable x ≡ true → AsReader buffer used x
  pub shows : (lent : List ℕ) (roles : ℕ) (l : List Addition) (after : List ℕ) (used : ℕ) → Built lent roles l after used
      → Shows (take used after) roles l

-- Slip 5, "Atom count in the header".

-- "Comparison gives the same results", that is the same answer, counts and written bytes; and so do the vocabulary check, the
-- nearest names and the script check, refusals included.
pub record SameAnswers (v w : List ℕ) : Type 0 where
  pub reads : vocabulary_check v ≡ vocabulary_check w
  pub compares : (a b lent : ℕ) → comparison v a b lent ≡ comparison w a b lent
  pub writes : (a b : ℕ) (lent : List ℕ)
      → written (comparison v a b (length lent)) v lent ≡ written (comparison w a b (length lent)) w lent
  pub classifies : (lent room : ℕ) → classification v lent room ≡ classification w lent room
  pub fills : (lent room : List ℕ) → (first_after v lent room ≡ first_after w lent room)
      × (second_after v lent room ≡ second_after w lent room)
  pub checks : (s : List ℕ) → script_check v s ≡ script_check w s

-- The promise: "for accepted vocabularies that differ only in edition".
abbrev pub EditionsAgree : Type 0
EditionsAgree = (v w : List ℕ) → AcceptedVocabulary v → AcceptedVocabulary w → DifferInEdition v w → SameAnswers v w

-- A vocabulary with the header of an edition: it is accepted, has as many records, is of that edition, and differs from what it
-- was in edition alone.
pub record Converted (v : List ℕ) (e : ℕ) : Type 0 where
  pub accepts : AcceptedVocabulary (in_edition e v)
  pub counted : vocabulary_check (in_edition e v) ≡ vocabulary_check v
  pub converted : edition (in_edition e v) ≡ e
  pub differs : DifferInEdition v (in_edition e v)

-- The promise: "Edition 1 is still read", so that every accepted vocabulary can be had in either edition.
abbrev pub EditionsConvert : Type 0
EditionsConvert = (v : List ℕ) (e : ℕ) → AcceptedVocabulary v → (e ≡ 1) ⊎ (e ≡ 2) → Converted v e
