-- What the code computes with: a script's records are read from their bytes.
use Rattle.std.specs.Prelude.{ℕ, ◌≡◌, refl, List}
use Rattle.records.specs.Code.Layout.{bytes_at}
use Rattle.scripts.specs.Format.{entry_size, entry_of, entry_at}

pub entry_read : (s : List ℕ) (i : ℕ) → entry_of (bytes_at entry_size s i) ≡ entry_at s i
unfolding entry_at
entry_read s i = refl
