-- The run over numbers, which the code computes, is the run of the paper, over literals about terms written out.
--   numbers_alike       opposed numbers are complements
--   step_corresponds    the columns of a step that row 18 allows correspond
--   chain_corresponds   so do those of each step of the chain
--   numbers_agree       the check of a chain
-- Assumes nothing.
use Prim.Native.Nat.{ℕ, ◌≤◌}
use native.Mathlib.Omega.{arith}
use mathlib.Core.Path.{◌≡◌}
use mathlib.Core.Bool.{true, false}
use mathlib.Core.List.{List, [], ◌∷◌}
use Rattle.records.proofs.Theorems.Accepted.{AcceptedFacts}
use Rattle.records.proofs.Laws.Lists.{All}
use Rattle.columns.specs.Literals.{constant}
use Rattle.scripts.specs.Steps.{Step, start, extension, reduction}
use Rattle.scripts.specs.Format.{entries, query_of, term_at, record_step, chain}
use Rattle.scripts.specs.Form.{step_fits}
use Rattle.scripts.specs.Run.{chain_check, written_out, step_at}
use Rattle.scripts.specs.Code.Numbered.{numbered}
use Rattle.scripts.proofs.Theorems.Form.{KeepsForm, OnChain, chain_ahead, step_fits_lem}
use Rattle.scripts.proofs.Refinement.Literals.{opposed-complementary}
use Rattle.scripts.proofs.Laws.Correspondence.{Alike, Corresponds, chain_same}
use Rattle.scripts.proofs.Refinement.Columns.{Denotes, about_constant, query-means, used_denotes}

module _ (v s : List ℕ) (good : AcceptedFacts v) (f : KeepsForm v s) where
  numbers_alike : Alike (numbered v s) (written_out v (query_of s)) (term_at s) (Denotes s)
  numbers_alike =
      record {
        opposed = λ l k m n p q. rw (p.number, q.number, p.denoted, q.denoted)
            (opposed-complementary v s good f p.literal q.literal p.valid q.valid);
        nothing = about_constant s false 0 (omega arith);
      }

  abbrev Matches : Step ℕ → Type 0
  Matches t = Corresponds (numbered v s) (written_out v (query_of s)) (term_at s) (Denotes s) t

  step_corresponds : (i : ℕ) (t : Step ℕ) → i ≤ entries s → step_fits v s i t ≡ true → Matches t
  step_corresponds i (start n) h e = query-means v s good f n 0 0 0 constant constant
  step_corresponds i (extension x) h e = used_denotes v s good f i x h e
  step_corresponds i (reduction k) h e = tt

  chain_corresponds : (is : List ℕ) → All (OnChain s) is → All (λ i. Matches (record_step s i)) is
  chain_corresponds [] a = tt
  chain_corresponds (i ∷ is) a = (
    step_corresponds i (record_step s i) (omega (arith, a.0.within)) (step_fits_lem v s f i a.0),
    chain_corresponds is a.1,
  )

pub numbers_agree : (v s : List ℕ) → AcceptedFacts v → KeepsForm v s
    → chain_check (numbered v s) (record_step s) (chain s) ≡ chain_check (written_out v (query_of s)) (step_at s) (chain s)
numbers_agree v s good f =
    chain_same (numbered v s) (written_out v (query_of s)) (term_at s) (Denotes s) (numbers_alike v s good f) (record_step s)
    (chain s)
    (chain_corresponds v s good f (chain s) (chain_ahead v s f))
