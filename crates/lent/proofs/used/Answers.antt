-- The first bytes end at the last of them that is not 0.
use Rattle.std.proofs.Common.{◌∙◌, ap, take}
use Rattle.std.proofs.lemmas.List.{take_min}
use Rattle.lent.specs.Told.{used_len}
use Rattle.lent.proofs.Steps.{used_len-none, used_len-last}
use Rattle.lent.proofs.used.Goals as goal

pub returns-in-Some-clause-value : goal.returns-in-Some-clause-value
returns-in-Some-clause-value c =
    let h = c.in-Some.ensures in
    used_len-last _ _ h.0 h.1 h.2 ∙ ap (λ n. used_len (take n c.args.buffer.now)) c.min.ensures
    ∙ ap used_len (take_min c.args.written c.args.buffer.now)

pub returns-in-None-clause-value : goal.returns-in-None-clause-value
returns-in-None-clause-value c = used_len-none _ c.in-None.ensures
    ∙ ap (λ n. used_len (take n c.args.buffer.now)) c.min.ensures ∙ ap used_len (take_min c.args.written c.args.buffer.now)
