-- `records::fields::Record::class` meets its contract: the kind that is read has the number's line of the table.
-- Assumes nothing.
use mathlib.Core.Path.{◌∙◌, ap}
use Rattle.records.specs.Kinds.{Kind}
use Rattle.records.proofs.Laws.Kinds.{same_kind}
use Rattle.records.proofs.fields.Record.class.Goals as goal

pub returns-in-Some : goal.returns-in-Some
returns-in-Some c =
    c.class.ensures ∙ ap (λ (k : Kind). k.class) (same_kind c.args.self.kind _ _ c.of.ensures c.in-Some.is)

pub returns-in-None : goal.returns-in-None
returns-in-None c =
    ap (λ (k : Kind). k.class) (same_kind c.args.self.kind _ _ c.of.ensures c.in-None.is)
