-- `columns::vocabulary::Vocabulary::owner_record` meets its contract. A record that is past the end, or states nothing, gives no
-- column.
-- Assumes nothing.
use native.Mathlib.Omega.{arith}
use mathlib.Core.Path.{◌≡◌}
use Rattle.records.specs.Format.{record_at}
use Rattle.records.proofs.Theorems.Accepted.{AcceptedFacts, accepted-vocabulary}
use Rattle.columns.specs.Columns.{states}
use Rattle.columns.proofs.Theorems.Owners.{columns_found, columns_past}
use Rattle.columns.proofs.vocabulary.Vocabulary.owner_record.Goals as goal

pub returns-then-i-self : goal.returns-then-i-self
returns-then-i-self c =
    let v = c.args.self.now in
    λ q n. columns_past v.bytes.now q (accepted-vocabulary _ _ v.accepted) c.args.owner n (omega arith)

pub bounds-self-i : goal.bounds-self-i
bounds-self-i c =
    let good : AcceptedFacts c.args.self.now.bytes.now = accepted-vocabulary _ _ c.args.self.now.accepted in
    omega (arith, good.sized.most)

pub returns : goal.returns
returns c =
    let v = c.args.self.now in
    let read : c.read_at-record.result ≡ record_at v.bytes.now c.args.owner = cc in
    let stated : c.states.result ≡ states v.bytes.now c.args.owner =
    c.states.ensures v.bytes.now c.args.owner read (cc (v.marked c.args.owner)) in
    λ q n. rw c.then_some.ensures (columns_found v.bytes.now q c.args.owner n _ _ stated read)
