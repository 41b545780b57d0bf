-- Atoms, and how many a vocabulary has.
use Rattle.std.specs.Prelude.{ℕ, zero, suc, ◌+◌, List}
use Rattle.records.specs.Finite.{digit}
use Rattle.records.specs.Format.{record_at, count}
use Rattle.records.specs.Kinds.{is_atom}

-- "Atoms are the records of kinds 3, 7 and 8, numbered from 0 in record order": an atom's number, the atoms before record i.
unfoldable pub rank : List ℕ → ℕ → ℕ
rank v zero = 0
rank v (suc i) = rank v i + digit (is_atom (record_at v i).kind)

-- "k is their count."
abbrev pub atoms : List ℕ → ℕ
atoms v = rank v (count v)
