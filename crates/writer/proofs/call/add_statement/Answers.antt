-- `writer::call::add_statement` meets its contract. A refusal leaves the buffer; else the link is written, and the record behind
-- the bytes in use.
-- Assumes nothing.
use native.Mathlib.Omega.{arith}
use mathlib.Core.Bool.{true}
use mathlib.Core.Path.{sym, ap, ◌∙◌}
use Rattle.std.proofs.lemmas.Result.{err_from_is_err_and}
use Rattle.records.specs.Format.{record_bytes}
use Rattle.records.specs.declared.fields.Record.{Record}
use Rattle.records.specs.Finite.{put}
use Rattle.writer.specs.Additions as additions
use Rattle.writer.specs.Code.Checks.{addition_check}
use Rattle.writer.proofs.Refinement.Calls.{refused-answers, statement-answers, linked-length}
use Rattle.writer.proofs.Theorems.Outcomes.{checks-fit, adding-refused, adding_fine, fit_well}
use Rattle.writer.proofs.call.add_statement.Goals as goal

pub returns-in_err-check_addition : goal.returns-in_err-check_addition
returns-in_err-check_addition c =
    let a = c.args in
    let same = ap (addition_check a.buffer.now a.used true) c.fields_of-f.ensures in
    let both = refused-answers _ a.buffer.now _ _
    (adding-refused a.buffer.now a.used (additions.statement a.a a.b) _ _ (c.in_err-check_addition.ensures ∙ same)) in
    let p = err_from_is_err_and c.from_residual.result c.from_residual.ensures.1 in
    rw (p.1, p.2) record { result_value = both.0; buffer_after = both.1 }

pub link_behind-requires : goal.link_behind-requires
link_behind-requires c =
    let a = c.args in
    let same = ap (addition_check a.buffer.now a.used true) c.fields_of-f.ensures in
    let x = additions.statement a.a a.b in
    let f = checks-fit a.buffer.now a.used x (sym (c.in_ok-check_addition.ensures ∙ same)) in
    record { used_in_bounds = f.within; well_formed = fit_well a.buffer.now a.used x f }

pub write_record-requires : goal.write_record-requires
write_record-requires c =
    let a = c.args in
    let same = ap (addition_check a.buffer.now a.used true) c.fields_of-f.ensures in
    let f = checks-fit a.buffer.now a.used (additions.statement a.a a.b) (sym (c.in_ok-check_addition.ensures ∙ same)) in
    omega (arith, f.room, linked-length a.buffer.now a.used _ f c.link_behind.new.buffer c.link_behind.ensures)

pub returns : goal.returns
returns c =
    let a = c.args in
    let same = ap (addition_check a.buffer.now a.used true) c.fields_of-f.ensures in
    let passed = c.in_ok-check_addition.ensures ∙ same in
    let both =
    statement-answers a.buffer.now a.used _ (checks-fit a.buffer.now a.used (additions.statement a.a a.b) (sym passed)) a.a a.b
    c.link_behind.new.buffer _ (adding_fine a.buffer.now a.used (additions.statement a.a a.b) passed) c.link_behind.ensures
    (c.write_record.ensures
    ∙ ap (λ (r : Record). put c.link_behind.new.buffer a.used (record_bytes r)) c.fields_of-f.ensures) in
    record { result_value = both.0; buffer_after = both.1 }
