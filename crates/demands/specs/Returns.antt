-- The demands and promises over what the calls return, for every input: what the contracts of src/lib.rt promise to a caller.
use Rattle.std.specs.Prelude.{ℕ, ◌+◌, ◌*◌, ◌≤◌, ◌<◌, true, not, ◌≡◌, List, [], ◌++◌, length, take, drop, Result, Ok, Err}
use Rattle.records.specs.Format.{count}
use Rattle.records.specs.Refusals.{number_of}
use Rattle.records.specs.declared.refusals.Refusal.{Refusal}
use Rattle.records.specs.Finite.{has, members}
use Rattle.writer.specs.Additions.{Addition}
use Rattle.types.specs.Types.{types, truth}
use Rattle.types.specs.Meaning.{AlwaysEqual, AlwaysWithin}
use Rattle.types.specs.Survivors.{survivors, rounds}
use Rattle.types.specs.Bitmap.{bitmap, read_back, HoldsSurvivors}
use Rattle.types.specs.declared.answers.Compared.{Compared}
use Rattle.types.specs.declared.answers.Counts.{Counts}
use Rattle.types.specs.declared.answers.Compared.TheVariants as compared
use Rattle.taxonomy.specs.Taxonomy.{taxonomy}
use Rattle.scripts.specs.Format.{query_of, chain}
use Rattle.demands.specs.Table.{Row, vocabulary_table, record_table, comparison_table, classification_table, script_table}
use Rattle.demands.specs.Table.{making_table, addition_table, AcceptedVocabulary, NoneApplies, Refuses, InForm}
use Rattle.demands.specs.Demands.{ChainDerives, Shown}
use Rattle.demands.specs.Promises.{RightTable, OnlyNew, MadeEmpty}

-- The vocabulary check "answers the number of records, header included".
abbrev pub VocabularyReturns : List ℕ → Result ℕ Refusal → Type 0
VocabularyReturns v (Ok n) = AcceptedVocabulary v × (n ≡ count v)
VocabularyReturns v (Err r) = Refuses (vocabulary_table v) (number_of r.row) r.place

-- The offset of a record.
abbrev pub OffsetReturns : List ℕ → ℕ → Result ℕ Refusal → Type 0
OffsetReturns v number (Ok at) = NoneApplies (record_table v number) × (at ≡ 8 * number)
OffsetReturns v number (Err r) = Refuses (record_table v number) (number_of r.row) r.place

-- "The record call hands back the eight bytes as part of the lent vocabulary; refused, an empty part."
pub data RecordReturns (v : List ℕ) (number : ℕ) (part : List ℕ) : Type 0 where
  handed : NoneApplies (record_table v number) → part ≡ take 8 (drop (8 * number) v) → length part ≡ 8
      → RecordReturns v number part
  empty : (n p : ℕ) → Refuses (record_table v number) n p → part ≡ [] → RecordReturns v number part

-- What goes with either answer of the comparison: "the number of survivors and of rounds that removed something (never over
-- 2^k)", and the bytes after the call, the survivors "in the first 512 bytes, the rest of which are 0; later bytes keep their
-- content", which read back are the interpretation written. With the classification too: "The first buffer and both counts are
-- as in the comparison."
pub record SurvivorsTold (rows : List Row) (v before after : List ℕ) (counts : Counts) : Type 0 where
  pub none : NoneApplies rows
  pub counted : counts.survivors ≡ members (survivors v)
  pub elapsed : counts.rounds ≡ rounds v
  pub few : counts.rounds ≤ types v
  pub wrote : after ≡ bitmap v ++ drop 512 before
  pub holds : HoldsSurvivors v after

-- "the smallest survivor at which the two terms differ"
pub record Smallest (v : List ℕ) (a b t : ℕ) : Type 0 where
  pub survives : has (survivors v) t ≡ true
  pub differ : truth v t a ≡ not (truth v t b)
  pub before : (u : ℕ) → u < t → has (survivors v) u ≡ true → truth v u a ≡ truth v u b

-- Equal: in every finite interpretation satisfying the statements. Different: not so, and the bytes after the call, read back,
-- show it by the element. Refused: the bytes are as they were.
abbrev pub ComparisonReturns : List ℕ → ℕ → ℕ → List ℕ → List ℕ → Result Compared Refusal → Type 0
ComparisonReturns v a b before after (Ok (compared.Equal counts)) =
    AlwaysEqual v a b × SurvivorsTold (comparison_table v a b (length before)) v before after counts
ComparisonReturns v a b before after (Ok (compared.Different t counts)) =
    (AlwaysEqual v a b → ⊥) × Shown (read_back v after) v a b t × Smallest v a b t
    × SurvivorsTold (comparison_table v a b (length before)) v before after counts
ComparisonReturns v a b before after (Err r) =
    Refuses (comparison_table v a b (length before)) (number_of r.row) r.place × (after ≡ before)

-- The counts: the second buffer has the taxonomy, then its later bytes, and so what NearestNames (Promises.antt) promises of
-- it. Refused: both buffers are as they were.
abbrev pub ClassificationReturns : List ℕ → List ℕ → List ℕ → List ℕ → List ℕ → Result Counts Refusal → Type 0
ClassificationReturns v before after room filled (Ok counts) =
    SurvivorsTold (classification_table v (length before) (length room)) v before after counts
    × (filled ≡ taxonomy v ++ drop 144 room) × RightTable v room filled
ClassificationReturns v before after room filled (Err r) =
    Refuses (classification_table v (length before) (length room)) (number_of r.row) r.place × (after ≡ before) × (filled ≡ room)

-- The new length of an empty vocabulary, which is its header, and is accepted; "each call answers the new length". Refused: the
-- buffer is as it was.
abbrev pub MakingReturns : List ℕ → ℕ → List ℕ → Result ℕ Refusal → Type 0
MakingReturns before roles after (Ok n) =
    NoneApplies (making_table (length before) roles) × (n ≡ 8) × MadeEmpty before roles n after
MakingReturns before roles after (Err r) =
    Refuses (making_table (length before) roles) (number_of r.row) r.place × (after ≡ before)

-- The new length of a vocabulary with an addition, which is accepted; only what belongs to the addition changed. Refused: the
-- buffer is as it was.
abbrev pub AdditionReturns : List ℕ → ℕ → Addition → List ℕ → Result ℕ Refusal → Type 0
AdditionReturns before used x after (Ok n) =
    NoneApplies (addition_table before used x) × (n ≡ used + 8) × AcceptedVocabulary (take n after) × OnlyNew before used x after
AdditionReturns before used x after (Err r) =
    Refuses (addition_table before used x) (number_of r.row) r.place × (after ≡ before)

-- Accepted: what the script asks is so in every finite interpretation satisfying the statements, and its chain, of so many steps,
-- derives it. Refused, where the vocabulary and the form were fit: the chain is no derivation of at most 64 open frames.
pub record Proved (v s : List ℕ) (n : ℕ) : Type 0 where
  pub none : NoneApplies (script_table v s)
  pub always : AlwaysWithin v (query_of s).a (query_of s).b
  pub derives : ChainDerives v s
  pub counted : n ≡ length (chain s)

abbrev pub NotDerived : List ℕ → List ℕ → Type 0
NotDerived v s = AcceptedVocabulary v → InForm v s → ChainDerives v s → ⊥

abbrev pub ScriptReturns : List ℕ → List ℕ → Result ℕ Refusal → Type 0
ScriptReturns v s (Ok n) = Proved v s n
ScriptReturns v s (Err r) = Refuses (script_table v s) (number_of r.row) r.place × NotDerived v s
