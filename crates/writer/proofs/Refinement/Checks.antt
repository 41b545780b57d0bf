-- What the code checks of an addition, one check after the other.
--   room_refused, room_fine         the rows of the bytes in use, by what the vocabulary check answered, then row 27
--   new_record_split, room_passed   these come first; what they tell where they passed
-- Assumes nothing.
use Prim.Native.Nat.{ℕ, ◌+◌}
use mathlib.Core.Path.{◌≡◌, sym, ◌∙◌}
use mathlib.Core.Bool.{Bool, ◌&&◌}
use mathlib.Core.List.{List}
use lib.ListN.{length}
use lib.Dec.{ltb, leb}
use Rattle.records.specs.Outcome.{Check, accepted, refused, pass, ◌then◌, require}
use Rattle.records.specs.Format.{record_size, record_limit, count}
use Rattle.records.specs.Check.{fields_check, vocabulary_rows, vocabulary_check}
use Rattle.records.specs.declared.fields.Record.{Record}
use Rattle.records.proofs.Laws.Checks.{then_assoc, then_passed}
use Rattle.records.proofs.Theorems.Accepted.{AcceptedFacts, rows-vocabulary, accepted-rows, vocabulary-refused}
use Rattle.records.proofs.Theorems.Bounds.{vocabulary-count}
use Rattle.writer.specs.Calls.{room_check}
use Rattle.writer.specs.Code.Checks.{new_record_check}

module _ (v : List ℕ) (size : ℕ) where
  pub room_refused : (n p : ℕ) → refused n p ≡ vocabulary_check v → refused n p ≡ (vocabulary_rows v then room_check v size)
  room_refused n p e = rw (vocabulary-refused v n p (sym e))

  pub room_fine : (n : ℕ) (o : Check) (b : Bool) → accepted n ≡ vocabulary_check v
      → o ≡ require b 27 n → b ≡ (ltb n record_limit && leb (length v + record_size) size)
      → o ≡ (vocabulary_rows v then room_check v size)
  room_fine n o b e q t = q ∙ rw (t, accepted-rows v n (sym e), vocabulary-count v n (sym e))

  pub new_record_split : (addable : Bool) (r : Record)
      → ((vocabulary_rows v then room_check v size) then require addable 3 (count v) then fields_check v (count v) r)
      ≡ new_record_check v size addable r
  unfolding new_record_check
  new_record_split addable r =
      then_assoc (vocabulary_rows v) (room_check v size) (require addable 3 (count v) then fields_check v (count v) r)

  pub room_passed : (vocabulary_rows v then room_check v size) ≡ pass → AcceptedFacts v
  room_passed e = rows-vocabulary v (then_passed (vocabulary_rows v) (room_check v size) tt e).0
