-- The script check's answer is right, on every script: demand 2.
--   checked_parts      what acceptance consists of
--   accepted-derives   an accepted script's chain is a derivation, and its steps are counted
--   derives-accepted   a script that keeps the form and whose chain is a derivation is accepted
--   accepted-within    what an accepted script asks is so in every model
-- Assumes nothing.
use Prim.Native.Nat.{ℕ}
use mathlib.Core.Path.{◌≡◌, refl}
use mathlib.Core.List.{List, map}
use lib.ListN.{length}
use Rattle.records.specs.Outcome.{Outcome, accepted, refused, pass, ◌then◌}
use Rattle.records.specs.Check.{vocabulary_check}
use Rattle.records.proofs.Laws.Tests.{clash}
use Rattle.records.proofs.Laws.Checks.{then_passed}
use Rattle.records.proofs.Theorems.Accepted.{accepted-vocabulary}
use Rattle.types.specs.Meaning.{AlwaysWithin}
use Rattle.scripts.specs.Format.{query_of, chain}
use Rattle.scripts.specs.Form.{form_check}
use Rattle.scripts.specs.Calculus.{Derives}
use Rattle.scripts.specs.Run.{chain_check, written_out, step_at, script_check}
use Rattle.scripts.proofs.Theorems.Runs.{derives-chain}
use Rattle.scripts.proofs.Theorems.Derivations.{chain-derives}
use Rattle.scripts.proofs.Theorems.Soundness.{derives-sound}
use Rattle.scripts.proofs.Theorems.Form.{keeps_form, chain-listed}

-- The parts of an acceptance.
pub record Parts (v s : List ℕ) (n : ℕ) : Type 0 where
  pub records : ℕ
  pub vocabulary : vocabulary_check v ≡ accepted records
  pub form : form_check v s ≡ pass
  pub run : chain_check (written_out v (query_of s)) (step_at s) (chain s) ≡ pass
  pub counted : n ≡ length (chain s)

pub checked_parts : (v s : List ℕ) (n : ℕ) → script_check v s ≡ accepted n → Parts v s n
unfolding script_check
checked_parts v s n e = at (vocabulary_check v) refl e
  where
    at : (o : Outcome ℕ) → vocabulary_check v ≡ o
        → (o
        then form_check v s
        then chain_check (written_out v (query_of s)) (step_at s) (chain s)
        then accepted (length (chain s))) ≡ accepted n
        → Parts v s n
    at (refused k p) q h = absurd (clash (cc))
    at (accepted m) q h =
        let ran = chain_check (written_out v (query_of s)) (step_at s) (chain s) in
        let form = then_passed (form_check v s) (ran then accepted (length (chain s))) n h in
        let run = then_passed ran (accepted (length (chain s))) n form.1 in
        let same : accepted (length (chain s)) ≡ accepted n = run.1 in
        record { records = m; vocabulary = q; form = form.0; run = run.0; counted = cc }

module _ (v s : List ℕ) where
  pub accepted-derives : (n : ℕ) → script_check v s ≡ accepted n → Derives v (query_of s) (map (step_at s) (chain s))
  accepted-derives n e =
      let p = checked_parts v s n e in
      chain-derives v s (chain s) (chain-listed v s (keeps_form v s p.form)) p.run

  pub derives-accepted : (m : ℕ) → vocabulary_check v ≡ accepted m → form_check v s ≡ pass
      → Derives v (query_of s) (map (step_at s) (chain s)) → script_check v s ≡ accepted (length (chain s))
  unfolding script_check
  derives-accepted m e form d = rw (e, form, derives-chain v s (chain s) d)

  pub accepted-within : (n : ℕ) → script_check v s ≡ accepted n → AlwaysWithin v (query_of s).a (query_of s).b
  accepted-within n e =
      let p = checked_parts v s n e in
      derives-sound v (accepted-vocabulary v p.records p.vocabulary) (query_of s) (map (step_at s) (chain s))
      (accepted-derives n e)
