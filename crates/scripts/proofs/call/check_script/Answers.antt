-- `scripts::call::check_script` meets its contract. Once the vocabulary and the form have passed, the chain decides.
-- Assumes nothing.
use Prim.Native.Nat.{ℕ}
use mathlib.Core.Path.{◌≡◌, sym}
use mathlib.Core.Bool.{Bool}
use mathlib.Core.List.{List}
use Rattle.records.specs.Outcome.{accepted, pass, require}
use Rattle.records.specs.Format.{record_limit}
use Rattle.records.specs.Check.{vocabulary_check}
use Rattle.records.proofs.Theorems.Accepted.{accepted_well_formed}
use Rattle.records.proofs.Laws.Filling.{none-marked}
use Rattle.scripts.specs.Format.{entry_at}
use Rattle.scripts.specs.Form.{length_fits}
use Rattle.scripts.specs.Code.Ready.{Begun}
use Rattle.scripts.specs.declared.entry.Entry.{Entry}
use Rattle.scripts.proofs.Refinement.Outcomes.{vocabulary_at, decided}
use Rattle.scripts.proofs.call.check_script.Goals as goal

-- What the form may rely on.
begun : (v s : List ℕ) (header : Entry) (m : ℕ) (t : Bool) → accepted m ≡ vocabulary_check v → pass ≡ require t 13 0
    → t ≡ length_fits s → header ≡ entry_at s 0 → Begun v s header
begun v s header m t taken sized told read =
    record { accepted = vocabulary_at v m taken; sized = rw (← told) (sym sized); read = read }

pub mark_chain-requires-clause-well_formed : goal.mark_chain-requires-clause-well_formed
mark_chain-requires-clause-well_formed c =
    accepted_well_formed _ _ (sym c.in_ok-check_vocabulary.ensures)

pub mark_chain-requires-clause-by_index : goal.mark_chain-requires-clause-by_index
mark_chain-requires-clause-by_index c = (none-marked record_limit).1

pub invariant_of-vocabulary-clause-accepted : goal.invariant_of-vocabulary-clause-accepted
invariant_of-vocabulary-clause-accepted c =
    vocabulary_at _ _ c.in_ok-check_vocabulary.ensures

pub returns : goal.returns
returns c =
    decided _ _ _ (vocabulary_at _ _ c.in_ok-check_vocabulary.ensures) (sym c.in_ok-check_form.ensures)
    c.check_chain.ensures
