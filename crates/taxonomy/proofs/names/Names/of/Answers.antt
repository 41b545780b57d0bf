-- `taxonomy::names::Names::of` meets its contract. There is room for a name's number, since each name is an atom.
-- Assumes nothing.
use Prim.Native.Nat.{ℕ, suc, ◌+◌, ◌≤◌, ◌<◌}
use native.Mathlib.Omega.{arith}
use mathlib.Core.Bool.{Bool, true, false}
use mir.Val.{bool_byte}
use mathlib.Core.List.{List}
use mathlib.Core.Path.{◌≡◌, refl, sym, ap, ◌∙◌}
use Rattle.records.proofs.Laws.Bits.{digit-small}
use Rattle.records.proofs.Laws.Filling.{fill_start, zeros}
use Rattle.records.proofs.Laws.Listing.{entries, entries_none, total_turn, fill_entry-kept, fill_entry_more}
use Rattle.records.proofs.Theorems.Accepted.{accepted-vocabulary}
use Rattle.records.proofs.Theorems.Ranks.{rank_turn, rank_mono, rank-next, rank-bound, names-few, name_atom}
use Rattle.records.specs.Atoms.{atoms, rank}
use Rattle.records.specs.Finite.{digit}
use Rattle.records.specs.Format.{count, record_at}
use Rattle.records.specs.Kinds.{is_atom, is_name}
use Rattle.records.specs.declared.fields.Record.{Record}
use Rattle.types.specs.Comparison.{atom_limit}
use Rattle.taxonomy.proofs.Theorems.Names.{named}
use Rattle.taxonomy.proofs.Refinement.Names.{byte_digit, numbers-set}
use Rattle.taxonomy.proofs.names.Names.of.Goals as goal

-- a name's number is below the limit
below : (v : List ℕ) (i : ℕ) → atoms v ≤ atom_limit → i < count v → named v i ≡ true → rank v i < atom_limit
below v i few h e =
    omega (arith, rank-next v i (name_atom (record_at v i).kind e), rank_mono v (suc i) (count v) (omega arith))

-- and there is room for it: n names have been listed, and the next record, r, is one
free : (v : List ℕ) (i n : ℕ) (r : Record) → atoms v ≤ atom_limit → i < count v → n ≡ entries (named v) i → r ≡ record_at v i
    → true ≡ is_name r.kind → n < atom_limit
free v i n r few h total read e =
    let name : named v i ≡ true = sym (e ∙ ap (λ (r : Record). is_name r.kind) read) in
    omega (arith, total, names-few v i, below v i few h name)

-- an atom counts 1
counted : (v : List ℕ) (i : ℕ) (r : Record) (b : Bool) → r ≡ record_at v i → b ≡ is_atom r.kind
    → bool_byte b ≡ digit (is_atom (record_at v i).kind)
counted v i r b read e =
    byte_digit b ∙ ap digit (e ∙ ap (λ (r : Record). is_atom r.kind) read)

pub loop-i-init : goal.loop-i-init
unfolding rank
loop-i-init c =
    record {
      total = sym (entries_none _);
      ranked = refl;
      filled = fill_start _ _ _ _ refl;
      small = λ m. omega (arith, zeros atom_limit m);
    }

pub offset_bounds-numbers-count : goal.offset_bounds-numbers-count
offset_bounds-numbers-count c =
    let l = c.loop-i in
    omega (
      arith,
      free c.args.v.now.bytes.now l.i l.count c.read_at-fields.result c.args.v.now.few (omega arith) l.invariant.total
          c.read_at-fields.ensures (sym c.if-is_name.true ∙ c.is_name.ensures),
    )

pub bounds-numbers-count : goal.bounds-numbers-count
bounds-numbers-count c =
    let l = c.loop-i in
    free c.args.v.now.bytes.now l.i l.count c.read_at-fields.result c.args.v.now.few (omega arith) l.invariant.total
    c.read_at-fields.ensures (sym c.if-is_name.true ∙ c.is_name.ensures)

pub overflow_add-count : goal.overflow_add-count
overflow_add-count c =
    let l = c.loop-i in
    omega (
      arith,
      free c.args.v.now.bytes.now l.i l.count c.read_at-fields.result c.args.v.now.few (omega arith) l.invariant.total
          c.read_at-fields.ensures (sym c.if-is_name.true ∙ c.is_name.ensures),
    )

pub overflow_add-atom : goal.overflow_add-atom
overflow_add-atom c =
    let l = c.loop-i in
    let v = c.args.v.now.bytes.now in
    omega (
      arith,
      l.invariant.ranked,
      rank-bound v l.i,
      (accepted-vocabulary v _ c.args.v.now.accepted).sized.most,
      byte_digit c.is_atom.result,
      digit-small c.is_atom.result,
    )

pub loop-i-preserved : goal.loop-i-preserved
loop-i-preserved c =
    let l = c.loop-i in
    let w = l.invariant in
    let v = c.args.v.now.bytes.now in
    let h : l.i + 1 ≤ count v = omega arith in
    let tested : c.is_name.result ≡ named v l.i =
    c.is_name.ensures ∙ ap (λ (r : Record). is_name r.kind) c.read_at-fields.ensures in
    let here : c.from-atom.result ≡ digit (is_atom (record_at v l.i).kind) =
    c.from-atom.ensures ∙ counted v l.i _ c.is_atom.result c.read_at-fields.ensures c.is_atom.ensures in
    let next = rank_turn v l.i l.atom _ w.ranked refl in
    let ranked : l.atom + c.from-atom.result ≡ rank v (l.i + 1) = ap (λ (n : ℕ). l.atom + n) here ∙ next in
    elim c.if-is_name.branch [
      | goal.then-is_name s ↦
          let e : named v l.i ≡ true = sym tested ∙ s.if-is_name.true in
          let less = below v l.i c.args.v.now.few (omega arith) e in
          let room : l.count < atom_limit = omega (arith, w.total, names-few v l.i) in
          rw (s.numbers-is, s.count-is) record {
            total = total_turn (named v) l.count l.i w.total true e;
            ranked = ranked;
            filled = fill_entry_more (named v) _ l.i w.total 0 _ (rank v) _ w.filled _ room e w.ranked;
            small = numbers-set l.numbers l.count l.atom w.small (omega (arith, w.filled.size)) (omega (arith, w.ranked));
          }
      | goal.else-is_name s ↦
          let e : named v l.i ≡ false = sym tested ∙ s.if-is_name.false in
          rw (s.numbers-is, s.count-is) record {
            total = omega (arith, total_turn (named v) l.count l.i w.total false e);
            ranked = ranked;
            filled = fill_entry-kept (named v) _ l.i w.total 0 _ (rank v) _ w.filled;
            small = w.small;
          }
    ]

pub invariant_of-result : goal.invariant_of-result
invariant_of-result c =
    let l = c.loop-i in
    let v = c.args.v.now.bytes.now in
    record {
      few = omega (arith, l.invariant.total, names-few v l.i, rank_mono v l.i (count v) (omega arith), c.args.v.now.few);
      small = l.invariant.small;
    }
