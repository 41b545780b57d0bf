-- `columns::vocabulary::Vocabulary::column_shape` meets its contract. Owner 0 is the query; another has its record's columns, or
-- none.
-- Assumes nothing.
use mathlib.Core.Path.{refl}
use Rattle.columns.specs.Columns.{query_columns, columns_at, takes_y}
use Rattle.columns.proofs.Refinement.Groups.{shape_plain}
use Rattle.columns.proofs.vocabulary.Vocabulary.column_shape.Goals as goal

pub returns-then-owner-eq0 : goal.returns-then-owner-eq0
unfolding columns_at takes_y
returns-then-owner-eq0 c =
    let s = c.without_y.ensures in
    λ q. rw c.if-owner-eq0.true (shape_plain (query_columns q) (refl, (refl, tt)) _ c.args.n s.size s.takes)

pub returns-in-None : goal.returns-in-None
unfolding takes_y
returns-in-None c = λ q. rw (c.in-None.ensures q c.if-owner-eq0.false) record { size = refl; takes = refl }
