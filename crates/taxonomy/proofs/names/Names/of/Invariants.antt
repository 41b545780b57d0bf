-- `taxonomy::names::Names::of` meets its contract. The loop's invariant: the names below `i` are listed, each with its number
-- among the atoms, which are counted. There is room, since each name is an atom.
-- Assumes nothing.
use mathlib.Core.Path.{◌≡◌}
use Rattle.records.proofs.Laws.Filling.{Filled}
use Rattle.records.proofs.Laws.Listing.{entries, entry}
use Rattle.records.specs.Atoms.{rank}
use Rattle.types.specs.Comparison.{atom_limit}
use Rattle.taxonomy.specs.Code.Meets.{AtomNumbers}
use Rattle.taxonomy.proofs.Theorems.Names.{named}
use Rattle.taxonomy.proofs.names.Names.of.Given as goal

abbrev pub invariant-loop-i : goal.invariant-loop-i
invariant-loop-i l =
    record {
      total : l.count ≡ entries (named l.v.bytes.now) l.i;
      ranked : l.atom ≡ rank l.v.bytes.now l.i;
      filled : Filled 0 atom_limit l.numbers (λ m. rank l.v.bytes.now (entry (named l.v.bytes.now) l.i m)) l.count;
      small : AtomNumbers l.numbers;
    }
