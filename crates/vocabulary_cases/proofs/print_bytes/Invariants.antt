-- What is written and the text of the bytes that are left make the whole text.
use Rattle.std.proofs.Common.{◌≡◌, ℕ, List, ◌++◌, drop}
use Rattle.std.specs.Io.KnownBytes.{Appends}
use Rattle.vocabulary_cases.specs.Lines.{bytes_text}
use Rattle.vocabulary_cases.proofs.print_bytes.Given as goal

abbrev pub invariant-loop-i : goal.invariant-loop-i
invariant-loop-i g l = (told : List ℕ) × Appends (g.W.Write.contents l.initial.out) (g.W.Write.contents l.out) told
    × (told ++ bytes_text (drop l.i l.part) ≡ bytes_text l.part)
