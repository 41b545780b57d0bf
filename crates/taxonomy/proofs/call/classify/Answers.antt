-- `taxonomy::call::classify` meets its contract. Each check that passed hands on to the next; one that refused leaves the lent
-- bytes as they were.
-- Assumes nothing.
use Prim.Native.Nat.{ℕ}
use mathlib.Core.Path.{◌≡◌, ap, ◌∙◌}
use mathlib.Core.List.{List}
use lib.ListN.{length}
use Rattle.std.proofs.lemmas.Result.{err_from_is_err_and}
use Rattle.records.specs.Atoms.{atoms}
use Rattle.records.specs.Outcome.{◌then◌}
use Rattle.types.specs.Comparison.{size_check}
use Rattle.taxonomy.specs.Taxonomy.{table_check}
use Rattle.taxonomy.proofs.Refinement.Outcomes.{size_rows, refused-vocabulary, refused_sizes}
use Rattle.taxonomy.proofs.Refinement.Outcomes.{sizes_settleable, tabulated_call}
use Rattle.taxonomy.proofs.call.classify.Goals as goal

pub returns-in_err-check_vocabulary : goal.returns-in_err-check_vocabulary
returns-in_err-check_vocabulary c =
    let a = c.args in
    let left = refused-vocabulary a.v.now a.lent.now a.room.now _ _ c.in_err-check_vocabulary.ensures in
    let p = err_from_is_err_and c.from_residual.result c.from_residual.ensures.1 in
    rw (p.1, p.2) record { result_value = left.0; lent_after = left.1.0; room_after = left.1.1 }

-- rows 11, 12 and 26 are asked of the number of atoms
asked : (v lent room : List ℕ) (k : ℕ) → k ≡ atoms v
    → (size_check k (length lent) then table_check (length room)) ≡ size_rows v lent room
asked v lent room k e = ap (λ (k : ℕ). size_check k (length lent) then table_check (length room)) e

pub returns-in_err-check_sizes : goal.returns-in_err-check_sizes
returns-in_err-check_sizes c =
    let a = c.args in
    let rows = c.in_err-check_sizes.ensures ∙ asked a.v.now a.lent.now a.room.now _ c.count_atoms-k.ensures in
    let left = refused_sizes a.v.now a.lent.now a.room.now _ c.in_ok-check_vocabulary.ensures _ _ rows in
    let r = c.from_residual-in_err-check_sizes in
    let p = err_from_is_err_and r.result r.ensures.1 in
    rw (p.1, p.2) record { result_value = left.0; lent_after = left.1.0; room_after = left.1.1 }

pub invariant_of-v : goal.invariant_of-v
invariant_of-v c =
    let a = c.args in
    let rows = c.in_ok-check_sizes.ensures ∙ asked a.v.now a.lent.now a.room.now _ c.count_atoms-k.ensures in
    let q = sizes_settleable a.v.now a.lent.now a.room.now _ c.in_ok-check_vocabulary.ensures rows _ c.count_atoms-k.ensures in
    record { accepted = q.accepts; few = q.few; counted = q.counts }

pub returns : goal.returns
returns c =
    let a = c.args in
    let rows = c.in_ok-check_sizes.ensures ∙ asked a.v.now a.lent.now a.room.now _ c.count_atoms-k.ensures in
    let e = c.tabulate.ensures in
    let done = tabulated_call a.v.now a.lent.now a.room.now _ c.in_ok-check_vocabulary.ensures rows _ _ _ e.result_value
    e.lent_after e.room_after in
    record { result_value = done.0; lent_after = done.1.0; room_after = done.1.1 }
