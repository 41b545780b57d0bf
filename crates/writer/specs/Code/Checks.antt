-- What the code checks of an addition. No promise of a call speaks of it.
use Rattle.std.specs.Prelude.{ℕ, Bool, List, length, take, leb}
use Rattle.records.specs.Outcome.{Check, ◌then◌, require}
use Rattle.records.specs.Format.{count}
use Rattle.records.specs.Check.{vocabulary_rows, fields_check}
use Rattle.records.specs.declared.fields.Record.{Record}
use Rattle.writer.specs.Calls.{room_check}

-- Rows 1 to 8 and 28 of the bytes in use, row 27, 3 for a record that no call adds, and of the bytes with the record the rows of
-- that record alone: the others pass again (proofs/Theorems/Outcomes.antt).
unfoldable pub new_record_check : List ℕ → ℕ → Bool → Record → Check
new_record_check v size addable r =
    vocabulary_rows v then room_check v size then require addable 3 (count v) then fields_check v (count v) r

-- The same in a buffer with a length in use.
unfoldable pub addition_check : List ℕ → ℕ → Bool → Record → Check
addition_check buffer used addable r =
    require (leb used (length buffer)) 1 0 then new_record_check (take used buffer) (length buffer) addable r
