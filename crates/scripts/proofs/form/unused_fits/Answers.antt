-- `scripts::form::unused_fits` meets its contract. The kind of the record says which of its words are unused.
-- Assumes nothing.
use mathlib.Core.Path.{sym}
use mathlib.Core.Bool.{and-true}
use Rattle.scripts.specs.Format.{kind_of}
use Rattle.records.specs.Finite.{all_zero}
use Rattle.scripts.proofs.form.unused_fits.Goals as goal

pub returns-in-Some-Term : goal.returns-in-Some-Term
unfolding kind_of
returns-in-Some-Term c =
    rw (c.kind.ensures.meaning, c.in-Some-Term.is, c.in-Some-Term.field-0-is) c.are_zero-in-Some-Term.ensures

pub returns-in-Some-Extension : goal.returns-in-Some-Extension
unfolding kind_of all_zero
returns-in-Some-Extension c =
    rw (c.kind.ensures.meaning, c.in-Some-Extension.is, c.in-Some-Extension.field-0-is) (sym (and-true _))

pub returns-in-None : goal.returns-in-None
unfolding kind_of all_zero
returns-in-None c =
    rw (c.kind.ensures.meaning, c.in-None.is)
