-- `scripts::run::Chain::make_step` meets its contract. Row 25 first; then the kind of the record that was read says which rows
-- are next, and what becomes of the frames.
-- Assumes nothing.
use Prim.Native.Nat.{ℕ}
use native.Mathlib.Omega.{arith}
use mathlib.Core.Path.{◌≡◌, ap, ◌∙◌}
use mathlib.Core.Bool.{false}
use mathlib.Core.List.{List}
use lib.ListN.{length-map}
use Rattle.std.proofs.lemmas.Grind.{common_steps}
use Rattle.columns.specs.Columns.{column_at}
use Rattle.records.specs.Finite.{is_nil}
use Rattle.scripts.specs.Format.{query_of, extension_of}
use Rattle.scripts.specs.Run.{step_check}
use Rattle.std.specs.Prelude.{Some}
use Rattle.scripts.specs.Code.Kinds.{kind_numbered}
use Rattle.scripts.specs.declared.entry.EntryKind.TheVariants as kind
use Rattle.scripts.specs.Code.Tested.{extension_check, extended}
use Rattle.scripts.specs.Code.Ready.{IsExtension}
use Rattle.scripts.proofs.Refinement.Lines.{numbered-as}
use Rattle.scripts.proofs.Refinement.Extensions.{read_extends}
use Rattle.scripts.proofs.Refinement.Stepping.{step_extending, step_reducing, step_neither}
use Rattle.scripts.proofs.Refinement.Stepping.{extension-rows, reduction-rows, start-rows, extension-after, reduction-after}
use Rattle.scripts.proofs.run.Chain.make_step.Goals as goal

pub returns-in_err-require-clause-rows : goal.returns-in_err-require-clause-rows
unfolding step_check
returns-in_err-require-clause-rows c = grind (arith, common_steps)

-- row 18 told that the column has the position
pub extend-requires-clause-listed : goal.extend-requires-clause-listed
extend-requires-clause-listed c =
    let a = c.args in
    let m = a.self.now in
    let kind : a.step.entry.w0 ≡ 4
    = numbered-as _ _ _ _ c.kind.ensures.number c.in-Some-Extension.is c.in-Some-Extension.field-0-is in
    let extends : IsExtension m.script.now a.step = record { read = c.requires; kind = kind } in
    let e = a.step.entry in
    let x = read_extends _ _ m.vocabulary.accepted m.form a.step extends in
    rw (c.used_column.ensures, length-map (column_at m.vocabulary.bytes.now (query_of m.script.now) e.w1 e.w2) _)
    x.position

pub returns-in-Some-Extension-clause-rows : goal.returns-in-Some-Extension-clause-rows
returns-in-Some-Extension-clause-rows c =
    let a = c.args in
    let m = a.self.now in
    let e = a.step.entry in
    let some : is_nil a.machine.now ≡ false = grind (arith, common_steps) in
    c.extend.ensures.rows
    ∙ ap (λ (l : List ℕ). extension_check l e.w5 a.step.number a.machine.now) c.used_column.ensures
    ∙ extension-rows m.vocabulary.bytes.now m.script.now a.step.number a.machine.now (extension_of e)
    (step_extending m.script.now a.step.number e c.requires.read
    (numbered-as _ _ _ _ c.kind.ensures.number c.in-Some-Extension.is c.in-Some-Extension.field-0-is)) some

pub returns-in-Some-Extension-clause-stepped : goal.returns-in-Some-Extension-clause-stepped
returns-in-Some-Extension-clause-stepped c passed =
    let a = c.args in
    let m = a.self.now in
    let e = a.step.entry in
    c.extend.ensures.extended passed
    ∙ ap (λ (l : List ℕ). extended l e.w5 a.machine.now) c.used_column.ensures
    ∙ extension-after m.vocabulary.bytes.now m.script.now a.step.number a.machine.now (extension_of e)
    (step_extending m.script.now a.step.number e c.requires.read
    (numbered-as _ _ _ _ c.kind.ensures.number c.in-Some-Extension.is c.in-Some-Extension.field-0-is))

pub returns-in_err-require-in-Some-Reduction-clause-rows : goal.returns-in_err-require-in-Some-Reduction-clause-rows
returns-in_err-require-in-Some-Reduction-clause-rows c =
    let a = c.args in
    let m = a.self.now in
    let e = a.step.entry in
    let some : is_nil a.machine.now ≡ false = grind (arith, common_steps) in
    let rows = reduction-rows m.vocabulary.bytes.now m.script.now a.step.number a.machine.now e.w1
    (step_reducing m.script.now a.step.number e c.requires.read
    (numbered-as _ _ _ _ c.kind.ensures.number c.in-Some-Reduction.is c.in-Some-Reduction.field-0-is)) some in
    grind (arith, common_steps)

pub returns-in_ok-require-in-Some-Reduction-clause-rows : goal.returns-in_ok-require-in-Some-Reduction-clause-rows
returns-in_ok-require-in-Some-Reduction-clause-rows c =
    let a = c.args in
    let m = a.self.now in
    let e = a.step.entry in
    let some : is_nil a.machine.now ≡ false = grind (arith, common_steps) in
    let rows = reduction-rows m.vocabulary.bytes.now m.script.now a.step.number a.machine.now e.w1
    (step_reducing m.script.now a.step.number e c.requires.read
    (numbered-as _ _ _ _ c.kind.ensures.number c.in-Some-Reduction.is c.in-Some-Reduction.field-0-is)) some in
    grind (arith, common_steps)

pub returns-in_ok-require-in-Some-Reduction-clause-stepped : goal.returns-in_ok-require-in-Some-Reduction-clause-stepped
returns-in_ok-require-in-Some-Reduction-clause-stepped c passed =
    let a = c.args in
    let m = a.self.now in
    let e = a.step.entry in
    c.close.ensures
    ∙ reduction-after m.vocabulary.bytes.now m.script.now a.step.number a.machine.now e.w1
    (step_reducing m.script.now a.step.number e c.requires.read
    (numbered-as _ _ _ _ c.kind.ensures.number c.in-Some-Reduction.is c.in-Some-Reduction.field-0-is))

pub returns-in_default-clause-rows : goal.returns-in_default-clause-rows
returns-in_default-clause-rows c =
    let a = c.args in
    let m = a.self.now in
    let some : is_nil a.machine.now ≡ false = grind (arith, common_steps) in
    start-rows m.vocabulary.bytes.now m.script.now a.step.number a.machine.now
    (step_neither m.script.now a.step.number a.step.entry c.requires.read
    (λ q. let e : c.kind.result ≡ Some kind.Extension = c.kind.ensures.number ∙ ap kind_numbered q in
    grind (arith, common_steps))
    (λ q. let e : c.kind.result ≡ Some kind.Reduction = c.kind.ensures.number ∙ ap kind_numbered q in
    grind (arith, common_steps)))
    some
