-- Each number's bytes are those that it was read from.
use Rattle.std.proofs.Common.{rules}
use Rattle.lent.proofs.Heads.{pair_read, quad_read}
use Rattle.comparison_cases.proofs.Steps.{head_read}
use Rattle.comparison_cases.proofs.HeadFromArrayU813.from.Goals as goal

pub returns : goal.returns
returns c = head_read c.args.bytes _ _ _ _ (search rules)
    (pair_read _ _ c.from_le_bytes.result (search rules) (search rules) c.from_le_bytes.ensures)
    (quad_read _ _ _ _ c.from_le_bytes-2.result (search rules) (search rules) (search rules) (search rules)
    c.from_le_bytes-2.ensures)
    (quad_read _ _ _ _ c.from_le_bytes-3.result (search rules) (search rules) (search rules) (search rules)
    c.from_le_bytes-3.ensures)
    (pair_read _ _ c.from_le_bytes-4.result (search rules) (search rules) c.from_le_bytes-4.ensures)
