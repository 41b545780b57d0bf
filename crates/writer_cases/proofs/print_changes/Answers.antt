-- A byte more is written where it changed, and at the end of the shorter part what was written is ended.
use Rattle.std.proofs.Common.{rules, ◌++◌, ◌==◌, ◌≡◌, slice_index}
use Rattle.std.specs.Prelude.{◌&&◌}
use Rattle.std.proofs.KnownBytes.{Appends-trans}
use Rattle.writer_cases.specs.Lines.{place_text}
use Rattle.writer_cases.proofs.Changes.{still_none, change_more, one_ends, told_whole}
use Rattle.writer_cases.proofs.print_changes.Goals as goal

pub loop-i-preserved : goal.loop-i-preserved
loop-i-preserved g c =
    let xs = c.args.before.now in
    let ys = c.args.after.now in
    let i = c.loop-i.i in
    let told = c.loop-i.invariant.0 in
    let inside-is = c.in_ok-inside.ensures.changed in
    let none-is : c.if-none.none ≡ (c.loop-i.none && (slice_index xs i == slice_index ys i)) =
    still_none _ _ _ _ inside-is (search rules) in (
      told ++ place_text i (slice_index xs i) (slice_index ys i) c.loop-i.inside,
      Appends-trans _ _ _ _ _ c.loop-i.invariant.1 c.in_ok-inside.ensures.text,
      change_more xs ys i told c.loop-i.none c.loop-i.inside c.if-none.none c.in_ok-inside.inside (search rules)
          (search rules) none-is inside-is c.loop-i.invariant.2,
    )

pub returns : goal.returns
returns g c = told_whole _ _ _ _ _ _ _ _ c.loop-i.invariant.1 c.loop-i.invariant.2
    (one_ends c.args.before.now c.args.after.now c.loop-i.i c.loop-i.none c.loop-i.inside (search rules))
    c.end_changes.ensures
