-- What is written and the text of the bytes that are left make the whole text.
use Rattle.std.proofs.Common.{◌≡◌, ℕ, List, ◌++◌, drop}
use Rattle.std.specs.Io.KnownBytes.{Appends}
use Rattle.writer_cases.specs.Lines.{changes_from, changes_text}
use Rattle.writer_cases.proofs.print_changes.Given as goal

abbrev pub invariant-loop-i : goal.invariant-loop-i
invariant-loop-i g l = (told : List ℕ) × Appends (g.W.Write.contents l.initial.out) (g.W.Write.contents l.out) told
    × (told ++ changes_from l.i l.none l.inside (drop l.i l.before) (drop l.i l.after) ≡ changes_text l.before l.after)
