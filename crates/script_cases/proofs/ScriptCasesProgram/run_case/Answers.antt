-- The head, the vocabulary and the script are the case.
use Rattle.std.proofs.Common.{◌≡◌, ◌++◌, rules, length, subst, sym, ap, ◌∙◌}
use Rattle.std.specs.Io.KnownBytes.{Appends, Consumes}
use Rattle.std.proofs.KnownBytes.{Consumes-trans}
use Rattle.lent.specs.Told.{pair_bytes}
use Rattle.script_cases.specs.Lines.{Case, case_bytes, answer_text}
use Rattle.script_cases.proofs.ScriptCasesProgram.run_case.Goals as goal

pub returns : goal.returns
returns g c =
    let head = c.from-head.result in
    let v = c.in-Some-2.v.now in
    let s = c.in-Some-3.s.now in
    let case : Case = record { vocabulary = v; script = s } in
    let first : length v ≡ head.vocabulary = search rules in
    let second : length s ≡ head.script = search rules in
    let third : Consumes (g.R.Read.remaining c.read_array.new.input) (g.R.Read.remaining c.read_part.new.input) v =
    search rules in
    let fourth : Consumes (g.R.Read.remaining c.read_part.new.input) (g.R.Read.remaining c.read_part-2.new.input) s = search rules
    in
    let whole : c.in-Some.bytes ++ v ++ s ≡ case_bytes case =
    sym (ap (λ n. pair_bytes n ++ pair_bytes (length s) ++ v ++ s) first
    ∙ ap (λ n. pair_bytes head.vocabulary ++ pair_bytes n ++ v ++ s) second ∙ ap (λ l. l ++ v ++ s) c.from-head.ensures) in (
      case,
      search rules,
      subst (Consumes _ _) whole (Consumes-trans _ _ _ _ _
          (Consumes-trans _ _ _ _ _ (rw c.in-Some.is at c.in_ok-bytes.ensures) third) fourth),
      subst (Appends _ _) (ap answer_text c.check_script.ensures) c.in_ok-print_answer.ensures,
    )
