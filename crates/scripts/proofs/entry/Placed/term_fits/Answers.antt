-- `scripts::entry::Placed::term_fits` meets its contract. A term has a function, and is not record 1.
-- Assumes nothing.
use borrow.Author.Tests.{eq-eqb, ne_eqb}
use Rattle.scripts.specs.Format.{kind_of}
use Rattle.scripts.proofs.entry.Placed.term_fits.Goals as goal

pub returns-then-not-first : goal.returns-then-not-first
unfolding kind_of
returns-then-not-first c =
    rw (c.kind.ensures.meaning, c.in-Some-Term.is, c.in-Some-Term.field-0-is, ne_eqb _ _ c.if-not-first.true)
    c.function_fits.ensures

pub returns-else-not-first : goal.returns-else-not-first
unfolding kind_of
returns-else-not-first c =
    rw (c.kind.ensures.meaning, c.in-Some-Term.is, c.in-Some-Term.field-0-is, eq-eqb _ _ c.if-not-first.false)
