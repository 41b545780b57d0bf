-- The three demands, proved: specs/Demands.antt states them.
-- Assumes nothing.
use lib.ListN.{length}
use Rattle.records.specs.Format.{count}
use Rattle.writer.specs.Calls.{making, adding}
use Rattle.writer.proofs.Theorems.Outcomes.{refused-length}
use Rattle.types.specs.Comparison.{verdict}
use Rattle.types.proofs.Theorems.Verdicts.{answers_always}
use Rattle.scripts.proofs.Theorems.Scripts.{checked_parts, accepted-derives, derives-accepted, accepted-within}
use Rattle.demands.specs.Demands.{Demand1, Demand2, Demand3}
use Rattle.demands.proofs.Theorems.Tables.{form_passed, term_passed, vocabulary_follows, record_follows}
use Rattle.demands.proofs.Theorems.Tables.{comparison_follows, classification_follows, script_follows, making_follows}
use Rattle.demands.proofs.Theorems.Tables.{addition_follows}
use Rattle.demands.proofs.Theorems.Denials.{right-verdict}

pub demand_1 : Demand1
demand_1 =
    record {
      vocabulary = vocabulary_follows;
      recording = record_follows;
      compares = comparison_follows;
      classifies = classification_follows;
      checks = script_follows;
      makes = making_follows;
      adds = addition_follows;
      untouched = λ v a b n p lent e. rw e;
      both_untouched = λ v lent room n p e. (rw e, rw e);
      unmade = λ lent roles n p e. rw (refused-length (making (length lent) roles) n p e);
      unadded = λ buffer used n p x e. rw (refused-length (adding buffer used x) n p e);
      empty = λ v number n p e. rw e;
    }

pub demand_2 : Demand2
demand_2 =
    record {
      exact = λ v s good kept. record {
        only = λ n h. (accepted-derives v s n h, (checked_parts v s n h).counted);
        always = derives-accepted v s (count v) ((vocabulary_follows v).accepted_always good) (form_passed v s kept);
      };
      means = accepted-within;
    }

pub demand_3 : Demand3
demand_3 v a b lent good s t few room =
    let accepts = (vocabulary_follows v).accepted_always good in
    let answers =
    answers_always v a b (length lent) (count v) accepts (term_passed v a s) (term_passed v b t) few room in
    record { answer = verdict v a b; answers = answers; right = right-verdict v a b lent (verdict v a b) answers }
