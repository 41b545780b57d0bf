-- `records::check::check_each` meets its contract. The loop's invariant: the records from `i` on decide.
-- Assumes nothing.
use mathlib.Core.Path.{◌≡◌, ◌∙◌, sym, ap}
use Rattle.std.proofs.Common.{rules}
use Rattle.records.specs.Check.{fields_check, record_check}
use Rattle.records.specs.Code.Fields.{record_fits}
use Rattle.records.specs.Format.{record_at}
use Rattle.records.specs.Outcome.{refused}
use Rattle.records.specs.Refusals.{answered, number_of}
use Rattle.records.proofs.Laws.Checks.{turn_refused, turn_passed, turns_end}
use Rattle.records.proofs.Refinement.Rows.{record_passes}
use Rattle.records.proofs.check.check_each.Goals as goal
use Rattle.records.proofs.check.check_each.Goals.{then-not-fits+in_ok-check, else-not-fits}

pub returns-in_err-check : goal.returns-in_err-check
unfolding record_check
returns-in_err-check c =
    let r = c.in_err-check.field-0.0 in
    let told : answered c.from_residual.result ≡ refused (number_of r.row) r.place = search rules in
    let row : refused (number_of r.row) r.place ≡ fields_check c.args.v.now c.loop-i.i c.read_at-f.result = search rules in
    told ∙ turn_refused (record_check c.args.v.now) _ _ _ _ _ c.loop-i-test.true c.loop-i.invariant
    (row ∙ ap (fields_check c.args.v.now c.loop-i.i) c.read_at-f.ensures)

pub loop-i-preserved : goal.loop-i-preserved
unfolding record_check
loop-i-preserved c =
    let v = c.args.v.now in
    let i = c.loop-i.i in
    turn_passed (record_check v) _ _ _ c.loop-i-test.true c.loop-i.invariant
    (elim c.if-not-fits.branch [
      | then-not-fits+in_ok-check w ↦
          sym (ap answered w.in_ok-check.was) ∙ w.check.ensures ∙ ap (fields_check v i) c.read_at-f.ensures
      | else-not-fits w ↦
          let fits = c.fits.ensures ∙ ap (record_fits v i) c.read_at-f.ensures in
          record_passes v i (record_at v i) (sym fits ∙ w.if-not-fits.false)
    ])

pub returns : goal.returns
returns c = turns_end _ _ _ _ c.loop-i-test.false c.loop-i.invariant
