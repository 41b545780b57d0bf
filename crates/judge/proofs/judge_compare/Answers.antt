-- `judge::judge_compare` meets its contract. The answer is small enough for its bits (`comparison-small`).
-- Assumes nothing.
use native.Mathlib.Omega.{arith}
use mathlib.Core.Path.{◌≡◌, sym, subst, ap, ◌∙◌}
use lib.ListN.{length}
use Rattle.std.proofs.Common.{rules}
use Rattle.records.specs.Outcome.{accepted, refused}
use Rattle.records.specs.Refusals.{number_of}
use Rattle.types.specs.Answers.{compared}
use Rattle.types.specs.Comparison.{equal, different, comparison}
use Rattle.demands.proofs.Theorems.Bounds.{SmallVerdict, most, comparison-small}
use Rattle.judge.proofs.judge_compare.Goals as goal

pub pack_counts-requires : goal.pack_counts-requires
pack_counts-requires c =
    let a = c.args in
    let size = length a.buffer.now in
    let counts = c.in-Ok-Equal.counts in
    let equals : comparison a.vocabulary.now a.a a.b size ≡ accepted (equal counts.survivors counts.rounds) = search rules in
    let small : SmallVerdict (most a.vocabulary.now a.a a.b size) (accepted (equal counts.survivors counts.rounds)) =
    subst (SmallVerdict _) equals (comparison-small a.vocabulary.now a.a a.b size) in
    record { survivors_bound = omega (arith, small.0); rounds_bound = omega (arith, small.1) }

pub pack_different-requires : goal.pack_different-requires
pack_different-requires c =
    let a = c.args in
    let size = length a.buffer.now in
    let is = c.in-Ok-Different in
    let counts = is.counts in
    let differs : comparison a.vocabulary.now a.a a.b size ≡ accepted (different is.element counts.survivors counts.rounds) =
    search rules in
    let small : SmallVerdict (most a.vocabulary.now a.a a.b size)
    (accepted (different is.element counts.survivors counts.rounds)) =
    subst (SmallVerdict _) differs (comparison-small a.vocabulary.now a.a a.b size) in
    record {
      element_bound = omega (arith, small.0);
      survivors_bound = omega (arith, small.1);
      rounds_bound = omega (arith, small.2);
    }

pub pack_refusal-requires : goal.pack_refusal-requires
pack_refusal-requires c =
    let a = c.args in
    let size = length a.buffer.now in
    let refusal = c.in-Err.refusal in
    let small : SmallVerdict (most a.vocabulary.now a.a a.b size) (refused (number_of refusal.row) refusal.place) =
    subst (SmallVerdict (most a.vocabulary.now a.a a.b size)) (sym c.compare.ensures.result_value ∙ ap compared c.in-Err.is)
    (comparison-small a.vocabulary.now a.a a.b size) in
    omega (arith, small.2)
