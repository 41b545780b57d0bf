-- `types::eliminate::remove_by_roles` meets its contract. The loop's invariant: what is left is what the roles that the loop
-- is past serve, and the list has it.
-- Assumes nothing.
use Prim.Native.Nat.{ℕ, ◌<◌}
use native.Mathlib.Omega.{arith}
use mathlib.Core.Path.{◌≡◌, ap}
use mathlib.Core.List.{List}
use lib.ListN.{length, get_or, take}
use lib.Pow.{pow_pos}
use Rattle.std.proofs.lemmas.List.{get_or-take, length-take}
use Rattle.records.specs.Format.{record_at, role_count}
use Rattle.records.specs.declared.fields.Record.{Record}
use Rattle.types.proofs.Refinement.Rounds.{roles-start, roles_skip, roles_turn, round_done}
use Rattle.types.proofs.Refinement.Rounds.{good, bits_few, reached_in, met-role, role_skipped, full_word}
use Rattle.types.proofs.Invariants.Elimination.{keeps_within}
use Rattle.types.proofs.eliminate.remove_by_roles.Goals as goal
use Rattle.types.proofs.eliminate.remove_by_roles.Goals.{then-mask-full, else-mask-full}

-- the number of roles, as the code reads it
role_count_is : (v : List ℕ) (r : Record) → r ≡ record_at v 0 → r.b ≡ role_count v
role_count_is v r e = ap (λ (r : Record). r.b) e

-- the masks that the loop goes over are those of the roles
mask_of : {b n r : ℕ} (masks : List ℕ) → r < length (take b masks) → b ≡ n
    → (r < n) × (get_or (take b masks) r 0 ≡ get_or masks r 0)
mask_of {b} {n} {r} masks h e =
    let below : r < b = omega (arith, length-take b masks) in
    (omega arith, get_or-take b masks r 0 below)

pub read_at-count-requires : goal.read_at-count-requires
read_at-count-requires c =
    omega (arith, (good c.requires.eliminating).sized.least)

pub overflow_cast-full : goal.overflow_cast-full
overflow_cast-full c =
    omega (arith, bits_few c.requires.eliminating)

pub overflow_shl-full : goal.overflow_shl-full
overflow_shl-full c =
    omega (arith, bits_few c.requires.eliminating)

pub overflow_sub-full : goal.overflow_sub-full
overflow_sub-full c =
    let few = bits_few c.requires.eliminating in
    omega (arith, full_word c.args.bits (omega arith), pow_pos c.args.bits)

pub shared_ref_as_front-mask-items : goal.shared_ref_as_front-mask-items
shared_ref_as_front-mask-items c =
    omega (arith, role_count_is c.args.v.now _ c.read_at-count.ensures, (good c.requires.eliminating).roles)

pub loop-mask-init : goal.loop-mask-init
loop-mask-init c =
    let s = c.requires.eliminating in (roles-start _ _, s.listed)

pub remove_unmet-requires-clause-by_index : goal.remove_unmet-requires-clause-by_index
remove_unmet-requires-clause-by_index c =
    let r = mask_of c.args.masks.now c.loop-mask-test.true (role_count_is c.args.v.now _ c.read_at-count.ensures) in
    rw r.1 (λ t h. reached_in c.requires.eliminating _ t r.0 (keeps_within _ _ _ c.loop-mask.invariant.0 t h))

pub loop-mask-preserved : goal.loop-mask-preserved
loop-mask-preserved c =
    let r = mask_of c.args.masks.now c.loop-mask-test.true (role_count_is c.args.v.now _ c.read_at-count.ensures) in
    let i = c.loop-mask.invariant in
    let s = c.requires.eliminating in
    let few = bits_few s in
    let full = full_word c.args.bits (omega arith) in
    elim c.if-mask-full.branch [
      | then-mask-full z ↦ rw (z.remaining-is, z.alive-is) (
        roles_turn _ _ _ _ i.0 _ _ z.remove_unmet.ensures.keeps
            (λ t m. rw r.1 (met-role s c.args.joins.now c.requires.joins _ t r.0 m)),
        z.remove_unmet.ensures.enumerates_2,
      )
      | else-mask-full z ↦ rw (z.remaining-is, z.alive-is) (
        roles_skip _ _ _ _ i.0 (λ t. role_skipped s _ t r.0 (omega (arith, r.1, z.if-mask-full.false, full))),
        i.1,
      )
    ]

pub returns-clause-same_set : goal.returns-clause-same_set
returns-clause-same_set c =
    let n = role_count_is c.args.v.now _ c.read_at-count.ensures in
    round_done c.requires.eliminating _ _
    (omega (
      arith,
      c.loop-mask-test.false,
      n,
      length-take c.read_at-count.result.b c.args.masks.now,
      (good c.requires.eliminating).roles,
    )) c.loop-mask.invariant.0
