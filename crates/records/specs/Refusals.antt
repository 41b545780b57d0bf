-- The number of each row of the code's enum, and the outcome that the answer of each call and check stands for.
use Rattle.std.specs.Prelude.{ℕ, Result, Ok, Err}
use Rattle.records.specs.Outcome.{Outcome, accepted, refused}
use Rattle.records.specs.declared.refusals.Refusal.{Refusal}
use Rattle.records.specs.declared.refusals.Row.{Row}
use Rattle.records.specs.declared.refusals.Row.TheVariants as row

-- The table of paper 01, rows 1 to 25, and of paper 02, from 26 on.
abbrev pub number_of : Row → ℕ
number_of row.Length = 1
number_of row.Header = 2
number_of row.Kind = 3
number_of row.Unused = 4
number_of row.Operand = 5
number_of row.Role = 6
number_of row.Label = 7
number_of row.Link = 8
number_of row.RecordNumber = 9
number_of row.QueryTerm = 10
number_of row.AtomLimit = 11
number_of row.SurvivorRoom = 12
number_of row.ScriptLength = 13
number_of row.ScriptHeader = 14
number_of row.EntryKind = 15
number_of row.EntryUnused = 16
number_of row.EntryTerm = 17
number_of row.Step = 18
number_of row.StepLink = 19
number_of row.Start = 20
number_of row.Connection = 21
number_of row.Reduction = 22
number_of row.FrameLimit = 23
number_of row.FrameLeft = 24
number_of row.AllClosed = 25
number_of row.TaxonomyRoom = 26
number_of row.RecordRoom = 27
number_of row.AtomsHeld = 28

-- A call answers a value or refuses; a check answers nothing but that it passed.
abbrev pub answered : {A : Type 0} → Result A Refusal → Outcome A
answered (Ok value) = accepted value
answered (Err refusal) = refused (number_of refusal.row) refusal.place
