-- `scripts::run::begin` meets its contract. A query column has one literal, which is frame 0.
-- Assumes nothing.
use native.Mathlib.Omega.{arith}
use mathlib.Core.Path.{◌≡◌, sym, ap, ◌∙◌}
use mathlib.Core.List.{List, [], ◌∷◌}
use Prim.Native.Nat.{ℕ}
use lib.ListN.{length}
use Rattle.columns.specs.Code.Kept.{literals}
use Rattle.scripts.specs.Code.Numbered.{no_number}
use Rattle.scripts.proofs.Refinement.Starting.{start_single, start-column}
use Rattle.scripts.proofs.run.begin.Goals as goal

pub take_out-goal-requires : goal.take_out-goal-requires
take_out-goal-requires c =
    let l = literals c.column.result in
    let one : length l ≡ 1
    = ap length (start_single c.args.query c.args.e.w1 no_number l c.requires (c.column.ensures 0 0 0)) in
    omega arith

pub returns : goal.returns
returns c v s read =
    let a = c.args in
    let l = literals c.column.result in
    let one = start_single a.query a.e.w1 no_number l c.requires (c.column.ensures 0 0 0) in
    let column = start-column v s a.query read a.e.w1 l (c.column.ensures 0 0 0) in
    c.start.ensures
    ∙ ap (λ (x : List ℕ). x ∷ []) (ap (λ (g : ℕ). g ∷ []) c.take_out-goal.ensures.literal ∙ (sym one ∙ column))
