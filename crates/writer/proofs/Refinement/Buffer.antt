-- What the code leaves in the buffer, and the lengths it counts with.
--   link_first, link_last        where the link stands, by the end of the chain
--   full, free                   whether there is room for a record
--   use_count, use_length        the bytes in use
--   part_put                     a part that was lent and written
--   record_behind, link_behind   the record, and link and record, written where they belong
-- Assumes nothing.
use Prim.Native.Nat.{ℕ, ◌+◌, ◌-◌, ◌*◌, ◌/◌, ◌≤◌, ◌<◌}
use native.Mathlib.Omega.{arith}
use native.Mathlib.Decide.{dec_le}
use mathlib.Core.Bool.{false, ◌&&◌}
use mathlib.Core.Path.{◌≡◌, sym, ap, ◌∙◌}
use mathlib.Core.List.{List, ◌++◌, append_assoc}
use lib.ListN.{length, take, drop, length-append}
use lib.Seq.{length-take-le, drop-drop}
use lib.Dec.{ltb, leb}
use borrow.Author.Tests.{eq-eqb, ne_eqb, lt-ltb, le-ltb, le-leb, lt-leb}
use Rattle.records.specs.Outcome.{accepted}
use Rattle.records.specs.Chain.{chain_end}
use Rattle.records.specs.Finite.{put}
use Rattle.records.specs.Format.{record_size, record_limit, word_size, place_of_a, place_of_next, word_bytes, record_bytes, count}
use Rattle.records.specs.declared.fields.Record.{Record}
use Rattle.records.proofs.Laws.Parts.{put-take, put-drop, put-length}
use Rattle.writer.specs.Additions.{link_place}
use Rattle.writer.specs.Calls.{buffer_after}

-- The link's place, by the end of the chain.
pub link_first : (v : List ℕ) (end : ℕ) → end ≡ chain_end v → end ≡ 0 → place_of_a ≡ link_place v
link_first v end e none = rw (eq-eqb (chain_end v) 0 (sym e ∙ none), ← e, none)

pub link_last : (v : List ℕ) (end : ℕ) → end ≡ chain_end v → (end ≡ 0 → ⊥) → record_size * end + place_of_next ≡ link_place v
link_last v end e some = rw (ne_eqb (chain_end v) 0 (λ q. some (e ∙ q)), e)

-- Room for a record.
pub full : (records used size : ℕ) → record_limit ≤ records
    → false ≡ (ltb records record_limit && leb (used + record_size) size)
full records used size h = rw (le-ltb records record_limit h)

pub free : (records used size : ℕ) → records < record_limit → used ≤ size
    → leb record_size (size - used) ≡ (ltb records record_limit && leb (used + record_size) size)
free records used size h within = rw (lt-ltb records record_limit h) (at (dec_le record_size (size - used)))
  where
    at : Dec (record_size ≤ size - used) → leb record_size (size - used) ≡ leb (used + record_size) size
    at (yes l) = rw (le-leb record_size (size - used) l, le-leb (used + record_size) size (omega arith))
    at (no n) = rw (lt-leb record_size (size - used) (omega arith), lt-leb (used + record_size) size (omega arith))

-- a part from `at` to `end` that was lent, and came back as others
pub part_put : (l : List ℕ) (at end : ℕ) (others now : List ℕ) → end ≡ at + length others → now ≡ others
    → take at l ++ (now ++ drop (end - at) (drop at l)) ≡ put l at others
part_put l at end others now e q =
    let long : at + (end - at) ≡ at + length others = omega arith in
    rw q (ap (λ (r : List ℕ). take at l ++ (others ++ r)) (drop-drop (end - at) at l ∙ ap (λ (n : ℕ). drop n l) long))

module _ (buffer : List ℕ) (used : ℕ) (within : used ≤ length buffer) where
  pub use_length : length (take used buffer) ≡ used
  use_length = length-take-le used buffer within

  pub use_count : count (take used buffer) ≡ used / record_size
  use_count = ap (λ (n : ℕ). n / record_size) use_length

  -- others behind a front that is as long as the bytes in use
  behind : (front others : List ℕ) → length front ≡ used
      → front ++ (others ++ drop (used + length others) buffer) ≡ buffer_after (accepted (front ++ others)) buffer
  behind front others e =
      let long : length (front ++ others) ≡ used + length others = length-append front others ∙ rw e in
      rw long (sym (append_assoc front others (drop (used + length others) buffer)))

  pub record_behind : (r : Record)
      → put buffer used (record_bytes r) ≡ buffer_after (accepted (take used buffer ++ record_bytes r)) buffer
  record_behind r = behind (take used buffer) (record_bytes r) use_length

  pub link_behind : (at x : ℕ) (r : Record) → at + word_size ≤ used → used + record_size ≤ length buffer
      → put (put buffer at (word_bytes x)) used (record_bytes r)
      ≡ buffer_after (accepted (put (take used buffer) at (word_bytes x) ++ record_bytes r)) buffer
  link_behind at x r h room =
      let link = word_bytes x in
      rw (
        put-take buffer at link (omega arith) used h within,
        put-drop buffer at link (omega arith) (used + record_size) (omega arith),
      )
      (behind (put (take used buffer) at link) (record_bytes r)
      (put-length (take used buffer) at link (omega (arith, use_length)) ∙ use_length))
