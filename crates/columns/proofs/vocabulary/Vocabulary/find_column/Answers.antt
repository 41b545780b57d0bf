-- `columns::vocabulary::Vocabulary::find_column` meets its contract. Owner 0 is the query.
-- Assumes nothing.
use Rattle.columns.specs.Columns.{columns_at}
use Rattle.columns.proofs.vocabulary.Vocabulary.find_column.Goals as goal

pub returns-then-owner-eq0 : goal.returns-then-owner-eq0
unfolding columns_at
returns-then-owner-eq0 c = rw c.if-owner-eq0.true (c.column.ensures _ _ _)
