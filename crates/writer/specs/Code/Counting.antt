-- How the code counts an atom. No promise of a call speaks of it.
use Rattle.std.specs.Prelude.{ℕ, ◌+◌, cond, ◌&&◌, List, eqb}
use Rattle.records.specs.Finite.{put}
use Rattle.records.specs.Format.{place_of_next, word_bytes, edition, atoms_held}
use Rattle.records.specs.Kinds.{is_atom}

-- One more than an edition 2 header holds, if a record of this kind is an atom: the k of the bytes with that record
-- (proofs/Refinement/Counting.antt).
abbrev pub raised : ℕ → List ℕ → List ℕ
raised kind v = cond (eqb (edition v) 2 && is_atom kind) (put v place_of_next (word_bytes (atoms_held v + 1))) v
