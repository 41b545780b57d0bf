-- The head and what follows it are the case.
use Rattle.std.proofs.Common.{◌≡◌, [], ◌∷◌, ◌++◌, rules, subst, sym, ap, ◌∙◌}
use Rattle.std.specs.Io.KnownBytes.{Consumes, Appends}
use Rattle.std.proofs.KnownBytes.{Consumes-trans}
use Rattle.lent.specs.Told.{pair_bytes}
use Rattle.writer_cases.specs.Lines.{Case, case_bytes, eight_bytes}
use Rattle.writer_cases.proofs.Steps.{line_is}
use Rattle.writer_cases.proofs.WriterCasesProgram.run_case.Goals as goal

pub returns : goal.returns
returns g c =
    let head = c.from-head.result in
    let begun = rw c.if-not-branch.false at c.in_ok-read_beginning.ensures in
    let case : Case = record {
      lent = head.lent;
      seed = head.seed;
      call = head.call;
      kind = head.kind;
      a = head.a;
      b = head.b;
      used = head.used;
      beginning = begun.0;
    } in
    let whole : c.in-Some.bytes ++ begun.0 ≡ case_bytes case =
    sym (ap (λ n. (pair_bytes n ++ pair_bytes head.lent ++ (head.seed ∷ head.call ∷ head.kind ∷ []) ++ pair_bytes head.a
    ++ pair_bytes head.b ++ eight_bytes head.used) ++ begun.0) begun.1 ∙ ap (λ l. l ++ begun.0) c.from-head.ensures) in (
      case,
      search rules,
      subst (Consumes _ _) whole (Consumes-trans _ _ _ _ _ (rw c.in-Some.is at c.in_ok-bytes.ensures) begun.3),
      subst (Appends _ _) (line_is case _ c.read_beginning.new.space c.in-Some-get_mut.buffer.now begun.1 (search rules) begun.4
          (search rules)) c.in_ok-print_case.ensures,
    )
