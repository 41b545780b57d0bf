-- `types::type_data::Plan::set_atoms` meets its contract. The loop's invariant: the first `j` atoms have their truths.
-- Assumes nothing.
use Prim.Native.Nat.{ℕ, ◌+◌, ◌<◌}
use native.Mathlib.Decide.{ℕ_discrete}
use native.Mathlib.Omega.{arith}
use mathlib.Core.Bool.{Bool, true, false}
use mathlib.Core.List.{List}
use mathlib.Core.Path.{◌≡◌, refl, sym, ap, ◌∙◌}
use lib.ListN.{length, get_or, set}
use lib.Seq.{get_or-set_same, get_or-set_other}
use Rattle.records.proofs.Theorems.Ranks.{rank_below}
use Rattle.records.specs.Atoms.{atoms, rank}
use Rattle.records.specs.Format.{count, record_at, record_limit}
use Rattle.records.specs.Kinds.{is_atom}
use Rattle.records.specs.Finite.{bit}
use Rattle.types.specs.Code.Rules.{AtomsListed}
use Rattle.types.specs.Code.Settling.{Prepared}
use Rattle.types.specs.declared.decode.Rule.{Rule}
use Rattle.types.specs.declared.restrict.Restriction.{Restriction}
use Rattle.types.proofs.Refinement.TypeData.{few-records}
use Rattle.types.proofs.type_data.Plan.set_atoms.Invariants.{Setting}
use Rattle.types.proofs.type_data.Plan.set_atoms.Goals as goal

module _ (v places : List ℕ) (p : AtomsListed v places) (t : ℕ) (values : List Bool) (j : ℕ) (s : Setting v t values j)
    (h : j < atoms v) (x : Bool) where
  abbrev place : ℕ
  place = get_or places j 0

  next : place < length values → x ≡ bit t j → Setting v t (set values place x) (j + 1)
  next l e =
      λ i k a r. at i k a r (ℕ_discrete i place) (ℕ_discrete (rank v i) j)
    where
      at : (i : ℕ) → i < count v → is_atom (record_at v i).kind ≡ true → rank v i < j + 1 → Dec (i ≡ place) → Dec (rank v i ≡ j)
          → get_or (set values place x) i false ≡ bit t (rank v i)
      at i k a r (yes q) d =
          ap (λ (n : ℕ). get_or (set values place x) n false) q ∙ get_or-set_same values place x false l ∙ e
          ∙ ap (bit t) (sym (ap (rank v) q ∙ p.ranked j h))
      at i k a r (no q) (yes d) = absurd (q (sym (p.finds i k a) ∙ ap (λ (n : ℕ). get_or places n 0) d))
      at i k a r (no q) (no d) = get_or-set_other values place i x false q ∙ s i k a (omega arith)

-- each listed atom is a record
at_below : {v : List ℕ} {a b : ℕ} {code : List Rule} {places statements : List ℕ} {list : List Restriction}
    → Prepared v a b code places statements list → (j : ℕ) → j < length places → get_or places j 0 < record_limit
at_below p j h =
    omega (arith, p.placed.within j (omega (arith, p.query.settles.counts)), few-records _ _ _ _ _ _ _ p)

pub bounds-values-at : goal.bounds-values-at
bounds-values-at c =
    at_below c.args.self.now.prepared c.loop-j.j (omega arith)

pub loop-j-preserved : goal.loop-j-preserved
unfolding bit
loop-j-preserved c =
    let p = c.args.self.now in
    let q = p.prepared in
    let l = c.loop-j in
    next p.v.now p.atoms.now q.placed c.args.t l.values l.j l.invariant (omega (arith, q.query.settles.counts)) _
    (omega (arith, at_below q l.j (omega arith))) refl

pub returns : goal.returns
returns c =
    let w = c.loop-j.invariant in
    let p = c.args.self.now in
    λ i h a. w i h a (omega (arith, rank_below p.v.now i h a, p.prepared.query.settles.counts))
