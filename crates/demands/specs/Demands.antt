-- The three demands, as statements over the definitions of the crates below and nothing else; proofs/Theorems/Demands.antt
-- proves each.
-- The contracts of src/lib.rt carry them to the calls; Returns.antt says what they come to there.
use Rattle.std.specs.Prelude.{ℕ, ◌+◌, ◌*◌, ◌≤◌, ◌≡◌, true, not, List, [], map, length}
use Rattle.records.specs.Outcome.{accepted, refused}
use Rattle.records.specs.Format.{count}
use Rattle.records.specs.Check.{vocabulary_check}
use Rattle.records.specs.Call.{record_call, record_part}
use Rattle.records.specs.Atoms.{atoms}
use Rattle.writer.specs.Additions.{Addition}
use Rattle.writer.specs.Calls.{making, adding, new_length, buffer_after}
use Rattle.types.specs.Meaning.{Interpretation, Element, belongs, Model, AlwaysEqual, AlwaysWithin}
use Rattle.types.specs.Comparison.{Verdict, equal, different, verdict, comparison, counts}
use Rattle.types.specs.Bitmap.{written, read_back}
use Rattle.taxonomy.specs.Taxonomy.{classification, first_after, second_after}
use Rattle.scripts.specs.Format.{query_of, chain}
use Rattle.scripts.specs.Calculus.{Derives}
use Rattle.scripts.specs.Run.{step_at, script_check}
use Rattle.demands.specs.Table.{vocabulary_table, record_table, comparison_table, classification_table, script_table}
use Rattle.demands.specs.Table.{making_table, addition_table, Follows, AcceptedVocabulary, TermOf, InForm}

-- Demand 1: "Every call ends on every input, refuses unfit input itself by a fixed number and place, and a refusal alters no
-- lent byte." Each call follows its table, and where no row applies answers the number of records, the record's offset, the
-- verdict, the counts, the number of steps, the new length. That a call ends is part of what the prover checks of every
-- function. Some calls are lent bytes that they may write: the comparison one buffer, the classification two, and each call of
-- the writer one. The record call, refused, hands back an empty part. `untouched`, `both_untouched`, `unmade`, `unadded` and
-- `empty` speak of the definitions; of the bytes themselves ComparisonReturns, ClassificationReturns, MakingReturns,
-- AdditionReturns and RecordReturns (Returns.antt) and `.exit` in src/lib.rt speak.
pub record Demand1 : Type 0 where
  pub vocabulary : (v : List ℕ) → Follows (vocabulary_table v) (count v) (vocabulary_check v)
  pub recording : (v : List ℕ) (number : ℕ) → Follows (record_table v number) (8 * number) (record_call v number)
  pub compares : (v : List ℕ) (a b lent : ℕ) → Follows (comparison_table v a b lent) (verdict v a b) (comparison v a b lent)
  pub classifies : (v : List ℕ) (lent room : ℕ)
      → Follows (classification_table v lent room) (counts v) (classification v lent room)
  pub checks : (v s : List ℕ) → Follows (script_table v s) (length (chain s)) (script_check v s)
  pub makes : (size roles : ℕ) → Follows (making_table size roles) 8 (new_length (making size roles))
  pub adds : (buffer : List ℕ) (used : ℕ) (x : Addition)
      → Follows (addition_table buffer used x) (used + 8) (new_length (adding buffer used x))
  pub untouched : (v : List ℕ) (a b n p : ℕ) (lent : List ℕ) → comparison v a b (length lent) ≡ refused n p
      → written (comparison v a b (length lent)) v lent ≡ lent
  pub both_untouched : (v lent room : List ℕ) (n p : ℕ) → classification v (length lent) (length room) ≡ refused n p
      → (first_after v lent room ≡ lent) × (second_after v lent room ≡ room)
  pub unmade : (lent : List ℕ) (roles n p : ℕ) → new_length (making (length lent) roles) ≡ refused n p
      → buffer_after (making (length lent) roles) lent ≡ lent
  pub unadded : (buffer : List ℕ) (used n p : ℕ) (x : Addition) → new_length (adding buffer used x) ≡ refused n p
      → buffer_after (adding buffer used x) buffer ≡ buffer
  pub empty : (v : List ℕ) (number n p : ℕ) → record_call v number ≡ refused n p → record_part v number ≡ []

-- The script's chain is a derivation, of at most 64 open frames, by start, extension and reduction over the listed columns.
abbrev pub ChainDerives : List ℕ → List ℕ → Type 0
ChainDerives v s = Derives v (query_of s) (map (step_at s) (chain s))

-- "A script that keeps the form, over an accepted vocabulary, is accepted exactly when its chain is a derivation, of at most 64
-- open frames, by start, extension and reduction over the listed columns"; acceptance goes "with the number of steps".
pub record Exact (v s : List ℕ) : Type 0 where
  pub only : (n : ℕ) → script_check v s ≡ accepted n → ChainDerives v s × (n ≡ length (chain s))
  pub always : ChainDerives v s → script_check v s ≡ accepted (length (chain s))

-- Demand 2: that, and "acceptance means that the first term lies within the second in every finite interpretation satisfying the
-- statements", whoever proposed the script and whatever the bytes are.
pub record Demand2 : Type 0 where
  pub exact : (v s : List ℕ) → AcceptedVocabulary v → InForm v s → Exact v s
  pub means : (v s : List ℕ) (n : ℕ) → script_check v s ≡ accepted n → AlwaysWithin v (query_of s).a (query_of s).b

-- No script that asks whether a lies within b is accepted.
abbrev pub Unproved : List ℕ → ℕ → ℕ → Type 0
Unproved v a b = (s : List ℕ) (n : ℕ) → (query_of s).a ≡ a → (query_of s).b ≡ b → script_check v s ≡ accepted n → ⊥

-- What is shown by an interpretation in which an element tells two terms apart: it "is a finite interpretation that satisfies
-- every statement and in which the element belongs to just one of the two terms; no script that asks whether the term with the
-- element lies within the other is then accepted". So no two scripts are, one for each direction.
pub record Shown (I : Interpretation) (v : List ℕ) (a b t : ℕ) : Type 0 where
  pub model : Model I v
  pub element : Element I t
  pub one : belongs I v a t ≡ not (belongs I v b t)
  pub first : belongs I v a t ≡ true → Unproved v a b
  pub second : belongs I v b t ≡ true → Unproved v b a
  pub never_both : (r s : List ℕ) (m n : ℕ) → (query_of r).a ≡ a → (query_of r).b ≡ b → (query_of s).a ≡ b → (query_of s).b ≡ a
      → script_check v r ≡ accepted m → script_check v s ≡ accepted n → ⊥

-- What makes an answer right, where `after` are the lent bytes after the call: the comparison "answers Equal exactly when the
-- terms are equal in every finite interpretation satisfying the statements; otherwise Different, naming an element, and what it
-- wrote, read back as the paper says", is an interpretation as in Shown.
abbrev pub Right : List ℕ → ℕ → ℕ → List ℕ → Verdict → Type 0
Right v a b after (equal survivors rounds) = AlwaysEqual v a b
Right v a b after (different t survivors rounds) = (AlwaysEqual v a b → ⊥) × Shown (read_back v after) v a b t

pub record Decided (v : List ℕ) (a b : ℕ) (lent : List ℕ) : Type 0 where
  pub answer : Verdict
  pub answers : comparison v a b (length lent) ≡ accepted answer
  pub right : Right v a b (written (comparison v a b (length lent)) v lent) answer

-- Demand 3: "For any two terms of an accepted vocabulary of at most 12 atoms, with at least 512 bytes lent, the comparison"
-- decides that.
abbrev pub Demand3 : Type 0
Demand3 =
    (v : List ℕ) (a b : ℕ) (lent : List ℕ) → AcceptedVocabulary v → TermOf v a → TermOf v b → atoms v ≤ 12 → 512 ≤ length lent
    → Decided v a b lent
