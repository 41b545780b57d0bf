-- `types::vocabulary::SmallVocabulary::list_atoms` meets its contract. The loop's invariant: the atoms below `i` are listed
-- by their numbers.
-- Assumes nothing.
use Prim.Native.Nat.{ℕ, zero, suc, ◌+◌, ◌≤◌, ◌<◌}
use native.Mathlib.Omega.{arith}
use mathlib.Core.Bool.{Bool, true}
use mathlib.Core.List.{List}
use mathlib.Core.Path.{◌≡◌, refl, sym, ap, ◌∙◌}
use lib.ListN.{get_or}
use Rattle.records.proofs.Theorems.Accepted.{accepted-vocabulary}
use Rattle.records.proofs.Theorems.Ranks.{rank_mono, rank-next, rank_below}
use Rattle.records.specs.Atoms.{atoms, rank}
use Rattle.records.specs.Finite.{digit}
use Rattle.records.specs.Format.{count, record_at}
use Rattle.records.specs.Kinds.{is_atom}
use Rattle.records.specs.declared.fields.Record.{Record}
use Rattle.types.specs.Comparison.{atom_limit}
use Rattle.types.specs.Code.Rules.{AtomsListed}
use Rattle.records.proofs.Laws.Listing.{entries, entry, entries_none, entries-length, entry-sound, entry-number, entry_at}
use Rattle.records.proofs.Laws.Listing.{list-start, list_more, list_same, listed-few}
use Rattle.types.proofs.vocabulary.SmallVocabulary.list_atoms.Invariants.{atom}
use Rattle.types.proofs.vocabulary.SmallVocabulary.list_atoms.Goals as goal
use Rattle.types.proofs.vocabulary.SmallVocabulary.list_atoms.Goals.{then-is_atom, else-is_atom}

module _ (v : List ℕ) where
  -- as many as the atoms before
  entries-rank : (n : ℕ) → entries (atom v) n ≡ rank v n
  unfolding rank
  entries-rank zero = entries_none (atom v)
  entries-rank (suc n) = entries-length (atom v) n ∙ ap (λ (k : ℕ). k + digit (atom v n)) (entries-rank n)

  -- there is room for one more
  room : (n i : ℕ) → n ≡ entries (atom v) i → atoms v ≤ atom_limit → i < count v → atom v i ≡ true → n < atom_limit
  room n i total few h e =
      omega (arith, entries-rank i, rank-next v i e, rank_mono v (suc i) (count v) (omega arith))

  listed : (places : List ℕ) → ((j : ℕ) → j < atoms v → get_or places j 0 ≡ entry (atom v) (count v) j) → AtomsListed v places
  listed places right =
      record {
        within = λ j h. omega (arith, right j h, (entry-sound (atom v) (count v) j (inside j h)).before);
        ranked = λ j h. ap (rank v) (right j h) ∙ sym (entries-rank _) ∙ entry-number (atom v) (count v) j (inside j h);
        finds = λ i h a. right (rank v i) (rank_below v i h a) ∙ ap (entry (atom v) (count v)) (sym (entries-rank i))
            ∙ entry_at (atom v) (count v) i h a;
      }
    where
      inside : (j : ℕ) → j < atoms v → j < entries (atom v) (count v)
      inside j h = omega (arith, entries-rank (count v))

-- what the test of a record that was read tells of its place
tested : (v : List ℕ) (i : ℕ) (r : Record) (b : Bool) → r ≡ record_at v i → b ≡ is_atom r.kind → atom v i ≡ b
tested v i r b e t = sym (t ∙ ap (λ (r : Record). is_atom r.kind) e)

pub loop-i-init : goal.loop-i-init
loop-i-init c =
    list-start _ _ _ refl

pub overflow_cast-places : goal.overflow_cast-places
overflow_cast-places c =
    omega (arith, (accepted-vocabulary c.args.self.now.bytes.now _ c.args.self.now.accepted).sized.most)

pub bounds-places-found : goal.bounds-places-found
bounds-places-found c =
    let e = tested _ _ _ _ c.read_at.ensures c.is_atom.ensures ∙ c.if-is_atom.true in
    room _ _ _ c.loop-i.invariant.total c.args.self.now.few (omega arith) e

pub offset_bounds-places-found : goal.offset_bounds-places-found
offset_bounds-places-found c =
    let e = tested _ _ _ _ c.read_at.ensures c.is_atom.ensures ∙ c.if-is_atom.true in
    omega (arith, room _ _ _ c.loop-i.invariant.total c.args.self.now.few (omega arith) e)

pub overflow_add-found : goal.overflow_add-found
overflow_add-found c =
    let v = c.args.self.now in
    omega (arith, listed-few _ _ _ _ _ c.loop-i.invariant, (accepted-vocabulary v.bytes.now _ v.accepted).sized.most)

pub loop-i-preserved : goal.loop-i-preserved
loop-i-preserved c =
    let l = c.loop-i in
    let e = tested _ _ _ _ c.read_at.ensures c.is_atom.ensures in
    elim c.if-is_atom.branch [
      | then-is_atom s ↦
          let r = room _ _ _ l.invariant.total c.args.self.now.few (omega arith) (e ∙ s.if-is_atom.true) in
          rw (s.places-is, s.found-is) (list_more _ _ _ _ _ l.invariant r (e ∙ s.if-is_atom.true))
      | else-is_atom s ↦ rw (s.places-is, s.found-is) (list_same _ _ _ _ _ l.invariant (e ∙ s.if-is_atom.false))
    ]

pub returns : goal.returns
returns c =
    let v = c.args.self.now.bytes.now in
    let l = c.loop-i in
    let w = l.invariant in
    let e : l.i ≡ count v = omega arith in
    listed v l.places
    (λ j h. w.filled.right j (omega (arith, w.total, entries-rank v l.i, ap (rank v) e)) ∙ ap (λ (n : ℕ). entry (atom v) n j) e)
