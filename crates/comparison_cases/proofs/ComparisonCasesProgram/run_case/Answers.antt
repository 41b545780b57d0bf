-- The head and the vocabulary are the case.
use Rattle.std.proofs.Common.{◌≡◌, [], ◌∷◌, ◌++◌, rules, length, subst, sym, ap, ◌∙◌}
use Rattle.std.specs.Io.KnownBytes.{Consumes, Appends}
use Rattle.std.proofs.KnownBytes.{Consumes-trans}
use Rattle.lent.specs.Told.{pair_bytes, quad_bytes}
use Rattle.comparison_cases.specs.Lines.{Case, case_bytes, line_text}
use Rattle.comparison_cases.proofs.ComparisonCasesProgram.run_case.Goals as goal

pub returns : goal.returns
returns g c =
    let head = c.from-head.result in
    let v = c.in-Some-2.v.now in
    let case : Case = record { a = head.a; b = head.b; lent = head.lent; seed = head.seed; vocabulary = v } in
    let size : length v ≡ head.length = search rules in
    let lent : length c.in-Some-get_mut.buffer.now ≡ head.lent = search rules in
    let whole : c.in-Some.bytes ++ v ≡ case_bytes case =
    sym (ap (λ n. (pair_bytes n ++ quad_bytes head.a ++ quad_bytes head.b ++ pair_bytes head.lent ++ head.seed ∷ []) ++ v) size
    ∙ ap (λ l. l ++ v) c.from-head.ensures) in (
      case,
      search rules,
      subst (Consumes _ _) whole (Consumes-trans _ _ _ _ _ (rw c.in-Some.is at c.in_ok-bytes.ensures) (search rules)),
      subst (Appends _ _) (ap (λ n. line_text v head.a head.b n head.seed) lent) c.in_ok-print_case.ensures,
    )
