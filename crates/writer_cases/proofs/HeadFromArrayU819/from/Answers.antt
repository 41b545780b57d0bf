-- Each number's bytes are those that it was read from.
use Rattle.std.proofs.Common.{rules}
use Rattle.lent.proofs.Heads.{pair_read}
use Rattle.writer_cases.proofs.Steps.{eight_read, head_read}
use Rattle.writer_cases.proofs.HeadFromArrayU819.from.Goals as goal

pub returns : goal.returns
returns c = head_read c.args.bytes _ _ _ _ _ (search rules)
    (pair_read _ _ c.from_le_bytes.result (search rules) (search rules) c.from_le_bytes.ensures)
    (pair_read _ _ c.from_le_bytes-2.result (search rules) (search rules) c.from_le_bytes-2.ensures)
    (pair_read _ _ c.from_le_bytes-3.result (search rules) (search rules) c.from_le_bytes-3.ensures)
    (pair_read _ _ c.from_le_bytes-4.result (search rules) (search rules) c.from_le_bytes-4.ensures)
    (eight_read _ _ _ _ _ _ _ _ c.from_le_bytes-5.result (search rules) (search rules) (search rules) (search rules)
    (search rules) (search rules) (search rules) (search rules) c.from_le_bytes-5.ensures)
