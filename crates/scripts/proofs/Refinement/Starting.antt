-- The first step of the chain.
--   start_single, start-column               a query column has one literal; it is the start's
--   start-frames                             the frames after a start
--   start-listed                             row 18: a start names one of the two query columns
--   first_step_lem                               a first step that is not 0 is a step
--   chain-none, chain_other, chain_started   the chain's outcome: no step, another first step, a start
-- Assumes nothing.
use Prim.Native.Nat.{ℕ, zero, suc, ◌≤◌}
use native.Mathlib.Omega.{arith}
use mathlib.Core.Path.{◌≡◌, sym, ap, ◌∙◌}
use mathlib.Core.List.{List, [], ◌∷◌}
use lib.ListN.{get_or}
use borrow.Author.Tests.{leb-true}
use Rattle.records.specs.Outcome.{refused}
use Rattle.columns.specs.Columns.{Query, query_columns, columns_at}
use Rattle.columns.specs.Code.Packed.{packed_at}
use Rattle.scripts.specs.Format.{entry_at, query_of, first_step, record_step, chain_from, chain}
use Rattle.scripts.specs.Run.{stepped, chain_check}
use Rattle.scripts.specs.Code.Numbered.{start_numbers, numbered}
use Rattle.scripts.specs.Code.Tested.{steps_after, start_outcome, chain_outcome}
use Rattle.scripts.specs.Code.Ready.{IsStep}
use Rattle.scripts.specs.declared.entry.Entry.{Entry}
use Rattle.scripts.proofs.Refinement.Lines.{step_start}
use Rattle.scripts.proofs.Refinement.Stepping.{step_starting, step_other}
use Rattle.scripts.proofs.Theorems.Form.{KeepsForm}
use Rattle.scripts.proofs.Invariants.Walk.{standing, reached, chain_at, chain_end_lem}

pub start_single : (q : Query) (n d : ℕ) (c : List ℕ) → n ≤ 1 → c ≡ packed_at 0 0 0 (get_or (query_columns q) n [])
    → c ≡ get_or c 0 d ∷ []
start_single q zero d c h e = rw e
start_single q (suc zero) d c h e = rw e
start_single q (suc (suc n)) d c h e = absurd (omega arith)

pub start-column : (v s : List ℕ) (q : Query) → q ≡ query_of s → (n : ℕ) (c : List ℕ)
    → c ≡ packed_at 0 0 0 (get_or (query_columns q) n []) → c ≡ start_numbers v s n
unfolding columns_at
start-column v s q e n c h = h ∙ ap (λ (x : Query). packed_at 0 0 0 (get_or (query_columns x) n [])) e

pub start-frames : (v s : List ℕ) (i : ℕ) (e : Entry) → e ≡ entry_at s i → e.w0 ≡ 3
    → start_numbers v s e.w1 ∷ [] ≡ stepped (numbered v s) [] (record_step s i)
unfolding stepped
start-frames v s i e q h = rw (step_starting s i e q h)

module _ (v s : List ℕ) (f : KeepsForm v s) where
  pub start-listed : (i : ℕ) (e : Entry) → e ≡ entry_at s i → IsStep s i → e.w0 ≡ 3 → e.w1 ≤ 1
  start-listed i e q t h = leb-true e.w1 1 (step_start v s i e h ∙ (rw q (f.steps i t.positive t.within)))

  pub first_step_lem : (first : ℕ) → first ≡ first_step s → (first ≡ 0 → ⊥) → IsStep s first
  first_step_lem first e n =
      standing s first (rw e (reached s 0 (first_step s) f.first)) n

  pub chain-none : (first : ℕ) → first ≡ first_step s → first ≡ 0 → refused 20 0 ≡ chain_outcome v s
  unfolding chain_check
  chain-none first e z =
      let none : chain s ≡ [] = ap (chain_from s) (sym e ∙ z) ∙ chain_end_lem s in
      rw none

  module _ (first : ℕ) (same : first ≡ first_step s) (t : IsStep s first) (e : Entry) (read : e ≡ entry_at s first) where
    begun : chain s ≡ first ∷ steps_after s first
    begun = ap (chain_from s) (sym same) ∙ chain_at v s f first t

    pub chain_other : (e.w0 ≡ 3 → ⊥) → refused 20 first ≡ chain_outcome v s
    unfolding chain_check
    chain_other n = rw (begun, step_other s first e read t n)

    pub chain_started : e.w0 ≡ 3 → start_outcome v s first ≡ chain_outcome v s
    unfolding chain_check
    chain_started h = rw (begun, step_starting s first e read h)
