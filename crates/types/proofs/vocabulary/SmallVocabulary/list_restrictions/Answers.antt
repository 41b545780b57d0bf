-- `types::vocabulary::SmallVocabulary::list_restrictions` meets its contract. The loop's invariant: the restrictions below
-- `i` are listed,
-- with what is kept of each. There is room, since each is an atom.
-- Assumes nothing.
use Prim.Native.Nat.{ℕ, suc, ◌≤◌, ◌<◌}
use native.Mathlib.Omega.{arith}
use mathlib.Core.Bool.{Bool, true}
use mathlib.Core.List.{List}
use mathlib.Core.Logic.{◌⊎◌, inl, inr}
use mathlib.Core.Path.{◌≡◌, refl, sym, ap, ◌∙◌}
use lib.Dec.{eqb}
use Rattle.records.proofs.Theorems.Accepted.{accepted-vocabulary}
use Rattle.records.proofs.Theorems.Ranks.{rank_mono}
use Rattle.records.specs.Atoms.{atoms}
use Rattle.records.specs.Finite.{digit}
use Rattle.records.specs.Format.{count, record_at}
use Rattle.records.specs.declared.fields.Record.{Record}
use Rattle.std.proofs.Common.{Option, Some}
use Rattle.std.specs.Option.{option_eq}
use Rattle.records.specs.Code.Kinds.{kind_numbered}
use Rattle.records.specs.declared.kinds.Kind.{Kind}
use Rattle.records.specs.declared.kinds.Kind.TheVariants as kind
use Rattle.records.specs.contracts.kinds.KindPartialEq.TheImpl.{eq-value}
use Rattle.records.proofs.Laws.Ranges.{restriction-kind}
use Rattle.types.specs.declared.restrict.Restriction.{Restriction}
use Rattle.types.specs.Comparison.{atom_limit}
use Rattle.types.specs.Code.Settling.{kept_of}
use Rattle.records.specs.Kinds.{is_restriction}
use Rattle.records.proofs.Laws.Listing.{entries, entries_none, entries-length, total_turn, fill_entry-kept}
use Rattle.records.proofs.Laws.Listing.{fill_entry_more}
use Rattle.types.proofs.Refinement.Restrictions.{restricts, restrictions-few}
use Rattle.records.proofs.Laws.Filling.{fill_start}
use Rattle.types.proofs.vocabulary.SmallVocabulary.list_restrictions.Goals as goal
use Rattle.types.proofs.vocabulary.SmallVocabulary.list_restrictions.Goals.{then-is_restriction, else-is_restriction}

-- there is room for one more
room : (v : List ℕ) (n i : ℕ) → n ≡ entries (restricts v) i → atoms v ≤ atom_limit → i < count v → restricts v i ≡ true
    → n < atom_limit
room v n i total few h e =
    omega (
      arith,
      entries-length (restricts v) i,
      ap digit e,
      restrictions-few v (suc i),
      rank_mono v (suc i) (count v) (omega arith),
    )

-- what the test of a record that was read tells of its place
tested : (v : List ℕ) (i : ℕ) (r : Record) (b : Bool) → r ≡ record_at v i → b ≡ is_restriction r.kind → restricts v i ≡ b
tested v i r b e t = sym (t ∙ ap (λ (r : Record). is_restriction r.kind) e)

-- what is kept of the restriction that was read
kept : (i : ℕ) (r : Record) (read : Option Kind) (b : Bool) → read ≡ kind_numbered r.kind
    → b ≡ option_eq eq-value.it read (Some kind.Universal) → is_restriction r.kind ≡ true
    → ◌≡◌ {A = Restriction} record { place = i; filler = r.b; role = r.a; universal = b }
    record { place = i; filler = r.b; role = r.a; universal = eqb r.kind 8 }
kept i r read b e t h =
    ap (λ (u : Bool). record { place = i; filler = r.b; role = r.a; universal = u })
    (rw e at t ∙ at r.kind (restriction-kind r.kind h))
  where
    at : (k : ℕ) → (k ≡ 7) ⊎ (k ≡ 8) → option_eq eq-value.it (kind_numbered k) (Some kind.Universal) ≡ eqb k 8
    at k (inl q) = rw q refl
    at k (inr q) = rw q refl

pub loop-i-init : goal.loop-i-init
loop-i-init c =
    record { total = sym (entries_none _); filled = fill_start _ _ _ _ c.told-list }

pub overflow_cast-list : goal.overflow_cast-list
overflow_cast-list c =
    omega (arith, (accepted-vocabulary c.args.self.now.bytes.now _ c.args.self.now.accepted).sized.most)

pub bounds-list-count : goal.bounds-list-count
bounds-list-count c =
    let e = tested _ _ _ _ c.read_at-fields.ensures c.is_restriction.ensures ∙ c.if-is_restriction.true in
    room _ _ _ c.loop-i.invariant.total c.args.self.now.few (omega arith) e

pub offset_bounds-list-count : goal.offset_bounds-list-count
offset_bounds-list-count c =
    let e = tested _ _ _ _ c.read_at-fields.ensures c.is_restriction.ensures ∙ c.if-is_restriction.true in
    omega (arith, room _ _ _ c.loop-i.invariant.total c.args.self.now.few (omega arith) e)

pub overflow_add-count : goal.overflow_add-count
overflow_add-count c =
    let e = tested _ _ _ _ c.read_at-fields.ensures c.is_restriction.ensures ∙ c.if-is_restriction.true in
    omega (arith, room _ _ _ c.loop-i.invariant.total c.args.self.now.few (omega arith) e)

pub loop-i-preserved : goal.loop-i-preserved
loop-i-preserved c =
    let l = c.loop-i in
    let w = l.invariant in
    let v = c.args.self.now.bytes.now in
    let read = c.read_at-fields.ensures in
    let test = tested v l.i _ _ read c.is_restriction.ensures in
    elim c.if-is_restriction.branch [
      | then-is_restriction s ↦ let e = test ∙ s.if-is_restriction.true in
          let r = room v l.count l.i w.total c.args.self.now.few (omega arith) e in
          rw (s.list-is, s.count-is) record {
            total = total_turn (restricts v) l.count l.i w.total true e;
            filled = fill_entry_more (restricts v) _ l.i w.total _ _ (kept_of v) _ w.filled _ r e
                (kept l.i c.read_at-fields.result _ _ s.of.ensures s.eq.ensures
                (sym c.is_restriction.ensures ∙ s.if-is_restriction.true)
                ∙ ap (λ (r : Record). record { place = l.i; filler = r.b; role = r.a; universal = eqb r.kind 8 }) read);
          }
      | else-is_restriction s ↦ let e = test ∙ s.if-is_restriction.false in
          rw (s.list-is, s.count-is) record {
            total = omega (arith, total_turn (restricts v) l.count l.i w.total _ e);
            filled = fill_entry-kept (restricts v) _ l.i w.total _ _ (kept_of v) _ w.filled;
          }
    ]
