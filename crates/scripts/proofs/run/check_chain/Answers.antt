-- `scripts::run::check_chain` meets its contract. The first step is a start, as row 20 asks; it and the other steps are run.
-- Assumes nothing.
use Prim.Native.Nat.{ℕ}
use native.Mathlib.Omega.{arith}
use mathlib.Core.Path.{◌≡◌, sym, ap, ◌∙◌}
use mathlib.Core.List.{List}
use Rattle.std.proofs.lemmas.Grind.{common_steps}
use Rattle.records.specs.Outcome.{refused}
use Rattle.records.specs.Refusals.{answered}
use Rattle.scripts.specs.Format.{entry_at, first_step}
use Rattle.scripts.specs.Code.Tested.{start_outcome, chain_outcome}
use Rattle.scripts.specs.Code.Ready.{Ready, IsStep, IsStart}
use Rattle.scripts.specs.declared.entry.Entry.{Entry}
use Rattle.scripts.proofs.Theorems.Form.{KeepsForm, keeps_form}
use Rattle.scripts.proofs.Refinement.Starting.{chain-none, chain_other, chain_started, first_step_lem}
use Rattle.scripts.proofs.run.check_chain.Goals as goal

module _ (v s : List ℕ) (header : Entry) (r : Ready v s header) where
  form : KeepsForm v s
  form = keeps_form v s r.form

  -- the number of the first step, in the header
  first_at : header.w3 ≡ first_step s
  first_at = ap (λ (x : Entry). x.w3) r.begun.read

  none : header.w3 ≡ 0 → refused 20 0 ≡ chain_outcome v s
  none z = chain-none v s form header.w3 first_at z

  -- there is a first step
  module _ (some : header.w3 ≡ 0 → ⊥) where
    first : IsStep s header.w3
    first = first_step_lem v s form header.w3 first_at some

    module _ (e : Entry) (read : e ≡ entry_at s header.w3) where
      other : (e.w0 ≡ 3 → ⊥) → refused 20 header.w3 ≡ chain_outcome v s
      other n = chain_other v s form header.w3 first_at first e read n

      -- it is a start
      is-start : e.w0 ≡ 3 → IsStart s header.w3
      is-start k = record { step = first; kind = sym (ap (λ (x : Entry). x.w0) read) ∙ k }

      started : e.w0 ≡ 3 → start_outcome v s header.w3 ≡ chain_outcome v s
      started k = chain_started v s form header.w3 first_at first e read k

pub returns-in_err-require : goal.returns-in_err-require
returns-in_err-require c =
    let zero' : c.args.header.w3 ≡ 0 = grind (arith, common_steps) in
    let answer : answered c.from_residual.result ≡ refused 20 0 = grind (arith, common_steps) in
    answer ∙ none _ _ _ c.requires zero'

pub read_at-requires : goal.read_at-requires
read_at-requires c =
    let some : c.args.header.w3 ≡ 0 → ⊥ = grind (arith, common_steps) in
    omega (arith, (first _ _ _ c.requires some).within)

pub returns-in_err-require-2 : goal.returns-in_err-require-2
returns-in_err-require-2 c =
    let some : c.args.header.w3 ≡ 0 → ⊥ = grind (arith, common_steps) in
    let kind : c.read_at.result.w0 ≡ 3 → ⊥ = grind (arith, common_steps) in
    let answer : answered c.from_residual-in_err-require-2.result ≡ refused 20 c.args.header.w3 = grind (arith, common_steps) in
    answer ∙ other _ _ _ c.requires some _ c.read_at.ensures kind

pub run_in_tables-requires-clause-start : goal.run_in_tables-requires-clause-start
run_in_tables-requires-clause-start c =
    let some : c.args.header.w3 ≡ 0 → ⊥ = grind (arith, common_steps) in
    let kind : c.read_at.result.w0 ≡ 3 = grind (arith, common_steps) in
    is-start _ _ _ c.requires some _ c.read_at.ensures kind

pub returns-then-end-le-FEW : goal.returns-then-end-le-FEW
returns-then-end-le-FEW c =
    let some : c.args.header.w3 ≡ 0 → ⊥ = grind (arith, common_steps) in
    let kind : c.read_at.result.w0 ≡ 3 = grind (arith, common_steps) in
    c.run_in_tables.ensures ∙ started _ _ _ c.requires some _ c.read_at.ensures kind

pub run_in_tables-requires-2-clause-start : goal.run_in_tables-requires-2-clause-start
run_in_tables-requires-2-clause-start c =
    let some : c.args.header.w3 ≡ 0 → ⊥ = grind (arith, common_steps) in
    let kind : c.read_at.result.w0 ≡ 3 = grind (arith, common_steps) in
    is-start _ _ _ c.requires some _ c.read_at.ensures kind

pub returns : goal.returns
returns c =
    let some : c.args.header.w3 ≡ 0 → ⊥ = grind (arith, common_steps) in
    let kind : c.read_at.result.w0 ≡ 3 = grind (arith, common_steps) in
    c.run_in_tables-2.ensures ∙ started _ _ _ c.requires some _ c.read_at.ensures kind
