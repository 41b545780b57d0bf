-- `taxonomy::meets::meet_part` meets its contract. A word whose place has the bit is met; another is not.
-- Assumes nothing.
use Prim.Native.Nat.{ℕ}
use mathlib.Core.Path.{refl, ◌∙◌}
use lib.ListN.{get_or}
use borrow.Author.Tests.{eq-eqb, ne_eqb}
use Rattle.records.proofs.Laws.Filling.{all_start}
use Rattle.records.proofs.Laws.Width.{bit_ones}
use Rattle.records.specs.Finite.{bit}
use Rattle.types.specs.Comparison.{atom_limit}
use Rattle.taxonomy.proofs.Refinement.Meets.{meet_turn, keep_turn}
use Rattle.taxonomy.proofs.meets.meet_part.Goals as goal

pub loop-x-init : goal.loop-x-init
loop-x-init c = λ q h. bit_ones atom_limit q h ∙ all_start _

pub loop-x-preserved : goal.loop-x-preserved
unfolding bit
loop-x-preserved c =
    let l = c.loop-x in
    let table = c.args.table.now in
    let p = c.args.p in
    let test = λ (x : ℕ). bit x p in
    let word = λ (x : ℕ). get_or table x 0 in
    elim c.if-x-p-eq1.branch [
      | goal.then-x-p-eq1 s ↦
          rw s.word-is
          (λ q h. meet_turn test word l.x q l.word (l.invariant q h) (get_or table l.x 0) (eq-eqb _ 1 s.if-x-p-eq1.true) refl)
      | goal.else-x-p-eq1 s ↦
          rw s.word-is (λ q h. keep_turn test word l.x q l.word (l.invariant q h) (ne_eqb _ 1 s.if-x-p-eq1.false))
    ]
