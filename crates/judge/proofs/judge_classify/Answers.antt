-- `judge::judge_classify` meets its contract. The answer is small enough for its bits (`classification-small`).
-- Assumes nothing.
use native.Mathlib.Omega.{arith}
use mathlib.Core.Path.{sym, subst, ap, ◌∙◌}
use lib.ListN.{length}
use Rattle.records.specs.Outcome.{accepted, refused}
use Rattle.records.specs.Format.{record_limit}
use Rattle.records.specs.Refusals.{answered, number_of}
use Rattle.demands.proofs.Theorems.Bounds.{SmallCounts, classification-small}
use Rattle.judge.proofs.judge_classify.Goals as goal

pub pack_counts-requires : goal.pack_counts-requires
pack_counts-requires c =
    let a = c.args in
    let small : SmallCounts record_limit (accepted c.in-Ok.counts) =
    subst (SmallCounts _) (sym c.classify.ensures.result_value ∙ ap answered c.in-Ok.is)
    (classification-small a.vocabulary.now (length a.survivors.now) (length a.taxonomy.now)) in
    record { survivors_bound = omega (arith, small.0); rounds_bound = omega (arith, small.1) }

pub pack_refusal-requires : goal.pack_refusal-requires
pack_refusal-requires c =
    let a = c.args in
    let small : SmallCounts record_limit (refused (number_of c.in-Err.refused.row) c.in-Err.refused.place) =
    subst (SmallCounts _) (sym c.classify.ensures.result_value ∙ ap answered c.in-Err.is)
    (classification-small a.vocabulary.now (length a.survivors.now) (length a.taxonomy.now)) in
    omega (arith, small.2)
