-- `records::check::Slot::field_fits` meets its contract. What the field holds selects its test.
-- Assumes nothing.
use mathlib.Core.Path.{◌∙◌}
use Rattle.records.specs.Finite.{occurs}
use Rattle.records.specs.Code.Fields.{field_fits}
use Rattle.records.proofs.check.Slot.field_fits.Goals as goal

pub returns-in-Spare : goal.returns-in-Spare
unfolding field_fits occurs
returns-in-Spare c =
    rw c.in-Spare.is

pub returns-in-Term : goal.returns-in-Term
unfolding field_fits occurs
returns-in-Term c =
    c.term_fits.ensures ∙ rw c.in-Term.is

pub returns-in-Role : goal.returns-in-Role
unfolding field_fits occurs
returns-in-Role c =
    rw (c.args.self.now.at_record.counted, c.in-Role.is)

pub returns-in-Label : goal.returns-in-Label
unfolding field_fits occurs
returns-in-Label c =
    rw (c.is_labelled.ensures, c.in-Label.is)

pub returns-in-Link : goal.returns-in-Link
unfolding field_fits occurs
returns-in-Link c =
    rw c.in-Link.is
