-- The bytes that the loop has passed are written.
use Rattle.std.proofs.Common.{take}
use Rattle.std.specs.Io.KnownBytes.{Appends}
use Rattle.lent.specs.Told.{hex_text}
use Rattle.lent.proofs.print_digits.Given as goal

abbrev pub invariant-loop-byte : goal.invariant-loop-byte
invariant-loop-byte g l = Appends (g.W.Write.contents l.initial.out) (g.W.Write.contents l.out)
    (hex_text (take l.byte-index l.part))
