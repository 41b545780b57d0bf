-- A byte more writes its two digits after the others.
use Rattle.std.proofs.Common.{subst}
use Rattle.std.specs.Io.KnownBytes.{Appends}
use Rattle.std.proofs.KnownBytes.{Appends-trans}
use Rattle.lent.proofs.Steps.{hex_text-more}
use Rattle.lent.proofs.print_digits.Goals as goal

pub loop-byte-preserved : goal.loop-byte-preserved
loop-byte-preserved g c = subst (Appends _ _) (hex_text-more c.args.part.now c.loop-byte.byte-index c.loop-byte-test.true)
    (Appends-trans _ _ _ _ _ c.loop-byte.invariant c.in_ok-print_hex.ensures)
