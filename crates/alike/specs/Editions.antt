-- Slip 5 of paper 02: vocabularies that differ in edition, and a vocabulary in another edition.
use Rattle.std.specs.Prelude.{ℕ, ◌≤◌, ◌<◌, ◌≡◌, cond, List, [], ◌∷◌, ◌⊎◌, length, get_or, eqb}
use Rattle.records.specs.Finite.{put}
use Rattle.records.specs.Format.{place_of_next, word_bytes}
use Rattle.records.specs.Atoms.{atoms}

-- Byte i is neither the edition, which is the header's second byte, nor k, which edition 2 has in the header's next.
abbrev pub OffEdition : ℕ → Type 0
OffEdition i = (i ≡ 1 → ⊥) × ((i < 6) ⊎ (8 ≤ i))

-- "accepted vocabularies that differ only in edition": all other bytes are the same.
pub record DifferInEdition (v w : List ℕ) : Type 0 where
  pub size : length v ≡ length w
  pub same : (i : ℕ) → OffEdition i → get_or v i 0 ≡ get_or w i 0

-- A vocabulary with a header of edition e, 1 or 2: edition 2 "holds k in next". What `desk edition` makes of it.
abbrev pub in_edition : ℕ → List ℕ → List ℕ
in_edition e v = put (put v 1 (e ∷ [])) place_of_next (word_bytes (cond (eqb e 2) (atoms v) 0))
