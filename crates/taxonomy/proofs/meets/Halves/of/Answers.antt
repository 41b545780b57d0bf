-- `taxonomy::meets::Halves::of` meets its contract. A member of the set is met where its halves stand; another is not.
-- Assumes nothing.
use native.Mathlib.Omega.{arith}
use mathlib.Core.Path.{refl}
use lib.ListN.{get_or-replicate}
use Rattle.taxonomy.specs.Code.Meets.{halves, low, high}
use Rattle.taxonomy.proofs.Refinement.Meets.{meets_start, meets_more, meets_same}
use Rattle.taxonomy.proofs.meets.Halves.of.Goals as goal

pub loop-t-init : goal.loop-t-init
loop-t-init c =
    record {
      by_low = meets_start low _ _ refl (λ x h. get_or-replicate halves x _ 0 h);
      by_high = meets_start high _ _ refl (λ x h. get_or-replicate halves x _ 0 h);
    }

pub loop-t-preserved : goal.loop-t-preserved
loop-t-preserved c =
    let l = c.loop-t in
    let w = l.invariant in
    let alive = c.args.alive.now in
    elim c.if-alive-t.branch [
      | goal.then-alive-t s ↦ rw (s.lows-is, s.highs-is) record {
        by_low = meets_more low alive l.lows l.t w.by_low s.if-alive-t.true (omega arith);
        by_high = meets_more high alive l.highs l.t w.by_high s.if-alive-t.true (omega (arith, c.requires));
      }
      | goal.else-alive-t s ↦ rw (s.lows-is, s.highs-is) record {
        by_low = meets_same low alive l.lows l.t w.by_low s.if-alive-t.false;
        by_high = meets_same high alive l.highs l.t w.by_high s.if-alive-t.false;
      }
    ]
