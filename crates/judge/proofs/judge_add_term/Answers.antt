-- `judge::judge_add_term` meets its contract. The answer fits its bits (`taken_apart`).
-- Assumes nothing.
use Prim.Native.Nat.{ℕ, ◌<◌, ◌^◌}
use mathlib.Core.Path.{sym, subst}
use Rattle.records.specs.Outcome.{Outcome}
use Rattle.writer.specs.Additions.{term}
use Rattle.judge.specs.Packed.{value_of}
use Rattle.judge.proofs.Unpacked.{taken_apart, unpacks_fits}
use Rattle.judge.proofs.judge_add_term.Goals as goal

pub pack_answer-requires : goal.pack_answer-requires
pack_answer-requires c =
    let a = c.args in
    subst (λ (o : Outcome ℕ). value_of o < 2 ^ 32) (sym c.add_term.ensures.result_value)
    (unpacks_fits _ _ (taken_apart.adds a.buffer.now a.used (term a.kind a.a a.b)))
