-- The head and the vocabulary are the case.
use Rattle.std.proofs.Common.{◌≡◌, ◌-◌, [], ◌∷◌, ◌++◌, rules, length, subst, sym, ap, ◌∙◌}
use Rattle.std.specs.Io.KnownBytes.{Consumes, Appends}
use Rattle.std.proofs.KnownBytes.{Consumes-trans}
use Rattle.lent.specs.Told.{pair_bytes, filled}
use Rattle.classification_cases.specs.Lines.{Case, case_bytes, line_text}
use Rattle.classification_cases.proofs.ClassificationCasesProgram.run_case.Goals as goal

pub returns : goal.returns
returns g c =
    let head = c.from-head.result in
    let v = c.in-Some-2.v.now in
    let case : Case = record { first = head.first; second = head.second; seed = head.seed; vocabulary = v } in
    let size : length v ≡ head.length = search rules in
    let first : length c.in-Some-get_mut.survivors.now ≡ head.first = search rules in
    let second : length c.in-Some-get_mut-2.taxonomy.now ≡ head.second = search rules in
    let whole : c.in-Some.bytes ++ v ≡ case_bytes case =
    sym (ap (λ n. (pair_bytes n ++ pair_bytes head.first ++ pair_bytes head.second ++ head.seed ∷ []) ++ v) size
    ∙ ap (λ l. l ++ v) c.from-head.ensures) in
    let line : line_text v (filled (length c.in-Some-get_mut.survivors.now) head.seed)
    (filled (length c.in-Some-get_mut-2.taxonomy.now) (255 - head.seed))
    ≡ line_text v (filled head.first head.seed) (filled head.second (255 - head.seed)) =
    ap (λ n. line_text v (filled n head.seed) (filled (length c.in-Some-get_mut-2.taxonomy.now) (255 - head.seed))) first
    ∙ ap (λ n. line_text v (filled head.first head.seed) (filled n (255 - head.seed))) second in (
      case,
      search rules,
      subst (Consumes _ _) whole (Consumes-trans _ _ _ _ _ (rw c.in-Some.is at c.in_ok-bytes.ensures) (search rules)),
      subst (Appends _ _) line c.in_ok-print_case.ensures,
    )
