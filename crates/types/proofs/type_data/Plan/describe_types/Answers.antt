-- `types::type_data::Plan::describe_types` meets its contract. The loop's invariant: the four tables are right below `t`, and no
-- type from there on is alive.
-- Assumes nothing.
use Prim.Native.Nat.{ℕ, ◌<◌}
use native.Mathlib.Decide.{dec_lt}
use native.Mathlib.Omega.{arith}
use mathlib.Core.Bool.{Bool, false}
use mathlib.Core.List.{List}
use mathlib.Core.Path.{◌≡◌, sym, ap, ◌∙◌, subst}
use Rattle.records.specs.Finite.{has, table}
use Rattle.types.specs.Survivors.{satisfies, stage}
use Rattle.types.specs.Types.{types}
use Rattle.types.specs.declared.type_data.TypeData.{TypeData}
use Rattle.records.proofs.Laws.Sets.{table_at, table_past}
use Rattle.records.proofs.Laws.Filling.{Filled, fill_turn, Ends, ends_turn}
use Rattle.types.proofs.Refinement.TypeData.{prepared_size}
use Rattle.types.specs.Comparison.{type_limit}
use Rattle.types.proofs.type_data.Plan.describe_types.Goals as goal

alive_at : (v : List ℕ) (alive : List Bool) → Filled false type_limit alive (satisfies v) (types v) → Ends alive (types v) →
    (t : ℕ)
    → has alive t ≡ has (stage v 0) t
unfolding stage
alive_at v alive f e t = at (dec_lt t (types v))
  where
    at : Dec (t < types v) → has alive t ≡ has (table (types v) (satisfies v)) t
    at (yes h) = f.right t h ∙ sym (table_at (types v) (satisfies v) false t h)
    at (no h) = e t (omega arith) ∙ sym (table_past (types v) (satisfies v) false t (omega arith))

pub bounds-alive-t : goal.bounds-alive-t
bounds-alive-t c =
    let n = prepared_size _ _ _ _ _ _ _ c.args.self.now.prepared in omega (arith, n.0, n.1)

pub bounds-differs-t : goal.bounds-differs-t
bounds-differs-t c =
    let n = prepared_size _ _ _ _ _ _ _ c.args.self.now.prepared in omega (arith, n.0, n.1)

pub bounds-held-t : goal.bounds-held-t
bounds-held-t c =
    let n = prepared_size _ _ _ _ _ _ _ c.args.self.now.prepared in omega (arith, n.0, n.1)

pub bounds-filling-t : goal.bounds-filling-t
bounds-filling-t c =
    let n = prepared_size _ _ _ _ _ _ _ c.args.self.now.prepared in omega (arith, n.0, n.1)

pub loop-t-preserved : goal.loop-t-preserved
loop-t-preserved c =
    let n = prepared_size _ _ _ _ _ _ _ c.args.self.now.prepared in
    let at : c.loop-t.t < type_limit = omega (arith, n.0, n.1) in
    let l = c.loop-t in
    let w = l.invariant in
    let e = c.describe-data.ensures in record {
      alive_filled = fill_turn _ _ _ _ _ _ at w.alive_filled (ap (λ (p : TypeData). p.satisfies) e);
      ends = ends_turn l.alive l.t c.describe-data.result.satisfies w.ends;
      differs_filled = fill_turn _ _ _ _ _ _ at w.differs_filled (ap (λ (p : TypeData). p.differs) e);
      held_filled = fill_turn _ _ _ _ _ _ at w.held_filled (ap (λ (p : TypeData). p.held) e);
      filling_filled = fill_turn _ _ _ _ _ _ at w.filling_filled (ap (λ (p : TypeData). p.filling) e);
    }

pub returns-clause-started : goal.returns-clause-started
returns-clause-started c =
    let l = c.loop-t in
    let w = l.invariant in
    let v = c.args.self.now.v.now in
    let e : l.t ≡ types v = omega (arith, (prepared_size _ _ _ _ _ _ _ c.args.self.now.prepared).0) in record {
      alive_at = alive_at v l.alive (subst (Filled false type_limit l.alive (satisfies v)) e w.alive_filled)
          (subst (Ends l.alive) e w.ends);
      differs_at = λ t h. w.differs_filled.right t (omega arith);
    }
