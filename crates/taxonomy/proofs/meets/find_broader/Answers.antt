-- `taxonomy::meets::find_broader` meets its contract. The tables by halves are of all types.
-- Assumes nothing.
use Prim.Native.Nat.{ℕ}
use native.Mathlib.Omega.{arith}
use mathlib.Core.Path.{subst}
use Rattle.types.proofs.Theorems.Survivors.{types-bound}
use Rattle.taxonomy.specs.Code.Meets.{Meets, low, high}
use Rattle.taxonomy.proofs.Refinement.Broader.{meets_above}
use Rattle.taxonomy.proofs.meets.find_broader.Goals as goal

pub of-requires : goal.of-requires
of-requires c =
    let v = c.args.v.now in
    omega (arith, c.type_count.ensures, types-bound v.bytes.now v.few)

pub returns : goal.returns
returns c =
    let v = c.args.v.now in
    let p = c.requires in
    let size = c.type_count.ensures in
    let alive = c.args.alive.now in
    let tables = c.of.result in
    let e = c.of.ensures in
    meets_above v.bytes.now v.k (record { accepts = v.accepted; few = v.few; counts = v.counted }) c.args.names p.names_listed
    alive p.same_set tables.low tables.high
    c.meet_names.result (subst (λ (n : ℕ). Meets low alive n tables.low) size e.meets)
    (subst (λ (n : ℕ). Meets high alive n tables.high) size e.meets_2) c.meet_names.ensures
