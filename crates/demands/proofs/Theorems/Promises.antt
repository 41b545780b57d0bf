-- The promises of the requests, proved: specs/Promises.antt states them.
--   chains_end                 paper 01, of chains
--   writes-survivors           paper 01, of the survivors
--   right-entry, right-table   an entry, and the second buffer, of a vocabulary that is compared
--   nearest_names              slip 1
--   writes_vocabularies        slip 4 (Writing has it)
--   editions_agree             slip 5
--   editions_convert           slip 5, of a vocabulary in the other edition
-- Assumes nothing.
use Prim.Native.Nat.{ℕ, ◌≤◌}
use native.Mathlib.Omega.{arith}
use mathlib.Core.Path.{◌≡◌, sym, ◌∙◌}
use mathlib.Core.List.{List, ◌++◌}
use lib.ListN.{length, drop, length-append, length-drop}
use lib.Seq.{drop_at}
use Rattle.records.specs.Format.{count}
use Rattle.records.specs.Atoms.{atoms}
use Rattle.records.proofs.Theorems.Accepted.{AcceptedFacts, accepted-vocabulary}
use Rattle.records.proofs.Theorems.Chains as chains
use Rattle.types.specs.Comparison.{atom_limit}
use Rattle.types.specs.Meaning.{AlwaysEqual}
use Rattle.types.proofs.Theorems.Survivors.{survivors-largest}
use Rattle.types.proofs.Theorems.Verdicts as verdicts
use Rattle.types.proofs.Theorems.Comparison.{written-survivors, none_equal}
use Rattle.taxonomy.specs.Taxonomy.{name_at, entry, taxonomy, taxonomy_bytes}
use Rattle.taxonomy.proofs.Theorems.Names.{name-is, name_found, names_rise}
use Rattle.taxonomy.proofs.Theorems.Entries.{entry-equal, equal-entry, entry_nearest, nearest_entry, entry_else}
use Rattle.taxonomy.proofs.Theorems.Entries.{taxonomy-entry, taxonomy-rest, length-taxonomy}
use Rattle.taxonomy.proofs.Theorems.Answers.{answers_always, first-survivors}
use Rattle.scripts.proofs.Theorems.Form as form
use Rattle.alike.proofs.Theorems.Editions.{editions_alike}
use Rattle.alike.proofs.Theorems.Conversion.{convert_differs, convert_edition, convert_accepted}
use Rattle.alike.proofs.Theorems.Comparison.{vocabulary_alike, comparison_alike, written_alike}
use Rattle.alike.proofs.Theorems.Taxonomy.{classification_alike, first_alike, second_alike}
use Rattle.alike.proofs.Theorems.Scripts.{script_alike}
use Rattle.alike.specs.Alike.{Alike}
use Rattle.alike.specs.Editions.{in_edition}
use Rattle.demands.specs.Table.{AcceptedVocabulary}
use Rattle.demands.specs.Promises.{ChainsEnd, WritesSurvivors, RightEntry, RightTable, NearestNames}
use Rattle.demands.specs.Promises.{SameAnswers, EditionsAgree, EditionsConvert}
use Rattle.demands.proofs.Theorems.Tables.{vocabulary_follows, term_passed, form_passed}
pub use Rattle.demands.proofs.Theorems.Writing.{writes_vocabularies, addition-accepted}

pub chains_end : ChainsEnd
chains_end =
    record {
      statements = λ v n good.
          chains.chain-ends v (accepted-vocabulary v (count v) ((vocabulary_follows v).accepted_always good)) n;
      steps = λ v s n kept. form.chain-ends v s (form.keeps_form v s (form_passed v s kept)) n;
    }

pub writes-survivors : WritesSurvivors
writes-survivors =
    record {
      largest = survivors-largest;
      compares = λ v lent a b x e. written-survivors v a b (length lent) x e lent;
      classifies = first-survivors;
      none_equal = none_equal;
    }

module _ (v : List ℕ) (good : AcceptedFacts v) (few : atoms v ≤ atom_limit) where
  right-entry : (a b : ℕ) → RightEntry v a b (entry v a b)
  right-entry a b =
      record {
        two_only = entry-equal v good few a b;
        two_always = equal-entry v good few a b;
        one_only = entry_nearest v good few a b;
        one_always = nearest_entry v good few a b;
        zero_else = entry_else v good few a b;
      }

  pub right-table : (room after : List ℕ) → taxonomy_bytes ≤ length room → after ≡ taxonomy v ++ drop taxonomy_bytes room
      → RightTable v room after
  right-table room after h e =
      let long = length-taxonomy v in
      let rest = drop taxonomy_bytes room in
      rw e record {
        order = record { each = name-is v; rising = names_rise v; every = name_found v };
        entries = λ i j k l. rw (taxonomy-entry v rest few i j k l) (right-entry (name_at v i) (name_at v j));
        contradictory = λ none i j k l.
            let same : AlwaysEqual v (name_at v i) (name_at v j) = λ I model. absurd (none I model) in
            taxonomy-entry v rest few i j k l ∙ equal-entry v good few (name_at v i) (name_at v j) same;
        rest = taxonomy-rest v rest;
        later = drop_at (taxonomy v) rest taxonomy_bytes long;
        size = length-append (taxonomy v) rest ∙ omega (arith, length-drop taxonomy_bytes room);
      }

pub nearest_names : NearestNames
nearest_names v lent room good few first second =
    let accepts = (vocabulary_follows v).accepted_always good in
    let answers = answers_always v (length lent) (length room) (count v) accepts few first second in
    record {
      answers = answers;
      first = rw answers;
      same = λ a b t u. rw (
        answers,
        verdicts.answers_always v a b (length lent) (count v) accepts (term_passed v a t)
            (term_passed v b u) few first,
      );
      second = right-table v (accepted-vocabulary v (count v) accepts) few room _ second (rw answers);
    }

-- Accepted vocabularies that look alike get the same answers.
alike_answers : (v w : List ℕ) → Alike v w → AcceptedVocabulary v → AcceptedVocabulary w → SameAnswers v w
alike_answers v w alike first second =
    let e = (vocabulary_follows v).accepted_always first in
    let f = (vocabulary_follows w).accepted_always second in
    record {
      reads = vocabulary_alike v w alike (count v) (count w) e f;
      compares = comparison_alike v w alike (count v) (count w) e f;
      writes = written_alike v w alike (count v) (count w) e f;
      classifies = classification_alike v w alike (count v) (count w) e f;
      fills = λ lent room. (
        first_alike v w alike (count v) (count w) e f lent room,
        second_alike v w alike (count v) (count w) e f lent room,
      );
      checks = script_alike v w alike (count v) (count w) e f;
    }

pub editions_agree : EditionsAgree
editions_agree v w first second differ = alike_answers v w (editions_alike v w differ) first second

pub editions_convert : EditionsConvert
editions_convert v e good is =
    let accepts = (vocabulary_follows v).accepted_always good in
    let least = (accepted-vocabulary v (count v) accepts).sized.least in
    let passes = convert_accepted v (count v) accepts e is in
    record {
      accepts = ((vocabulary_follows (in_edition e v)).accepted_only (count v) passes).0;
      counted = passes ∙ sym accepts;
      converted = convert_edition v e least;
      differs = convert_differs v e least;
    }
