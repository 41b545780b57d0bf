-- What the code computes with: files of records of one size, of which some name a later one. No promise of a call speaks of it.
use Rattle.std.specs.Prelude.{ℕ, ◌-◌, ◌*◌, ◌/◌, ◌%◌, ◌≡◌, refl, Bool, not, ◌&&◌, ◌||◌, List, length, take, drop, ltb, leb, eqb}
use Rattle.records.specs.Outcome.{Check, ◌then◌, require, in_turn}
use Rattle.records.specs.Format.{record_size, record_of, record_at}

-- The length of a file.
abbrev pub length_fits : ℕ → ℕ → List ℕ → Bool
length_fits size limit bytes = leb size (length bytes) && (leb (length bytes) (size * limit) && eqb (length bytes % size) 0)

-- the bytes of record i
abbrev pub bytes_at : ℕ → List ℕ → ℕ → List ℕ
bytes_at size bytes i = take size (drop (size * i) bytes)

-- Records of this size: `at` a number, some of them linked. The header and the linked ones have the number of a later linked
-- record, or 0.
module _ {E : Type 0} (size : ℕ) (at : List ℕ → ℕ → E) (linked : E → Bool) where
  abbrev pub link_fits : List ℕ → ℕ → ℕ → Bool
  link_fits bytes i x = eqb x 0 || (ltb i x && (ltb x (length bytes / size) && linked (at bytes x)))

  module _ (next : E → ℕ) (row : ℕ) (bytes : List ℕ) where
    abbrev pub link_check : ℕ → Check
    link_check i = require (not (linked (at bytes i)) || link_fits bytes i (next (at bytes i))) row i

    abbrev pub each_link_check : Check
    each_link_check = in_turn link_check 1 (length bytes / size - 1)

    abbrev pub links_check : ℕ → Check
    links_check first = require (link_fits bytes 0 first) row 0 then each_link_check

-- A vocabulary's records are read from their bytes.
pub record_read : (v : List ℕ) (i : ℕ) → record_of (bytes_at record_size v i) ≡ record_at v i
unfolding record_at
record_read v i = refl
