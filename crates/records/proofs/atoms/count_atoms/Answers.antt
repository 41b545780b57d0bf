-- `records::atoms::count_atoms` meets its contract. The loop's invariant: `found` atoms are before record `i`.
-- Assumes nothing.
use native.Mathlib.Omega.{arith}
use mathlib.Core.Path.{◌≡◌, refl, sym, ap, ◌∙◌}
use Rattle.records.specs.Atoms.{rank}
use Rattle.records.specs.Finite.{digit}
use Rattle.records.specs.Format.{record_at}
use Rattle.records.specs.Kinds.{is_atom}
use Rattle.records.specs.declared.fields.Record.{Record}
use Rattle.records.proofs.Laws.Bits.{digit-from, digit-small}
use Rattle.records.proofs.Theorems.Ranks.{rank_turn}
use Rattle.records.proofs.atoms.count_atoms.Goals as goal

pub loop-i-init : goal.loop-i-init
unfolding rank
loop-i-init c = (refl, omega arith)

pub loop-i-preserved : goal.loop-i-preserved
loop-i-preserved c =
    let l = c.loop-i in
    let v = c.args.v.now in
    let is-atom : is_atom (record_at v l.i).kind ≡ c.is_atom.result =
    sym (c.is_atom.ensures ∙ ap (λ (r : Record). is_atom r.kind) c.read_at.ensures) in
    let more : c.from-found.result ≡ digit c.is_atom.result = c.from-found.ensures ∙ digit-from c.is_atom.result in (
      omega (arith, more, rank_turn v l.i l.found c.is_atom.result l.invariant.0 is-atom),
      omega (arith, more, digit-small c.is_atom.result, l.invariant.1),
    )
