-- What the script check answers, once the vocabulary and the form have passed.
--   vocabulary_at     a vocabulary that was accepted
--   decided           the chain decides
-- Assumes nothing.
use Prim.Native.Nat.{ℕ}
use mathlib.Core.Path.{◌≡◌, sym, ap, ◌∙◌}
use mathlib.Core.List.{List}
use Rattle.records.specs.Outcome.{Outcome, accepted, pass}
use Rattle.records.specs.Format as format
use Rattle.records.specs.Check.{vocabulary_check, IsAccepted}
use Rattle.records.proofs.Theorems.Bounds.{vocabulary-count}
use Rattle.records.proofs.Theorems.Accepted.{accepted-vocabulary}
use Rattle.scripts.specs.Form.{form_check}
use Rattle.scripts.specs.Run.{script_check}
use Rattle.scripts.specs.Code.Tested.{chain_outcome}
use Rattle.scripts.proofs.Theorems.Form.{keeps_form}
use Rattle.scripts.proofs.Refinement.Agreement.{numbers_agree}

pub vocabulary_at : (v : List ℕ) (m : ℕ) → accepted m ≡ vocabulary_check v → IsAccepted v
vocabulary_at v m e = sym e ∙ ap (λ (n : ℕ). accepted n) (vocabulary-count v m (sym e))

pub decided : (v s : List ℕ) (answer : Outcome ℕ) → IsAccepted v → form_check v s ≡ pass
    → answer ≡ chain_outcome v s → answer ≡ script_check v s
unfolding script_check
decided v s answer taken form a =
    let same = numbers_agree v s (accepted-vocabulary v (format.count v) taken) (keeps_form v s form) in
    a ∙ rw (taken, form, same)
