-- `writer::call::add_term` meets its contract. A refusal leaves the buffer; else an atom is counted, and the record is written
-- behind the bytes in use.
-- Assumes nothing.
use native.Mathlib.Omega.{arith}
use Prim.Native.Nat.{ℕ}
use mathlib.Core.Bool.{Bool}
use mathlib.Core.List.{List}
use mathlib.Core.Path.{◌≡◌, sym, ap, ap₂, ◌∙◌}
use Rattle.std.proofs.lemmas.Result.{err_from_is_err_and}
use Rattle.records.specs.Format.{record_bytes}
use Rattle.records.specs.Kinds.{is_term}
use Rattle.records.specs.declared.fields.Record.{Record}
use Rattle.records.specs.Finite.{put}
use Rattle.writer.specs.Additions.{term, record_with}
use Rattle.writer.specs.Code.Checks.{addition_check}
use Rattle.writer.specs.Code.Counting.{raised}
use Rattle.writer.proofs.Refinement.Calls.{refused-answers, term-answers}
use Rattle.writer.proofs.Refinement.Counting.{header_fits_lem, held_small, raised-length}
use Rattle.writer.proofs.Theorems.Outcomes.{checks-fit, adding-refused, adding_fine}
use Rattle.writer.proofs.call.add_term.Goals as goal

-- the checks are those of the term
asked : (buffer : List ℕ) (used kind a b : ℕ) (f : Record) (is : Bool) → f ≡ record_with kind a b → is ≡ is_term f.kind
    → addition_check buffer used is f ≡ addition_check buffer used (is_term kind) (record_with kind a b)
asked buffer used kind a b f is e t =
    ap₂ (addition_check buffer used) (t ∙ ap (λ (r : Record). is_term r.kind) e) e

pub returns-in_err-check_addition : goal.returns-in_err-check_addition
returns-in_err-check_addition c =
    let a = c.args in
    let same = asked a.buffer.now a.used a.kind a.a a.b _ _ c.fields_of-f.ensures c.is_term.ensures in
    let both = refused-answers _ a.buffer.now _ _
    (adding-refused a.buffer.now a.used (term a.kind a.a a.b) _ _ (c.in_err-check_addition.ensures ∙ same)) in
    let p = err_from_is_err_and c.from_residual.result c.from_residual.ensures.1 in
    rw (p.1, p.2) record { result_value = both.0; buffer_after = both.1 }

pub raise_atoms-requires : goal.raise_atoms-requires
raise_atoms-requires c =
    let a = c.args in
    let same = asked a.buffer.now a.used a.kind a.a a.b _ _ c.fields_of-f.ensures c.is_term.ensures in
    let f = checks-fit a.buffer.now a.used (term a.kind a.a a.b) (sym (c.in_ok-check_addition.ensures ∙ same)) in
    record {
      record_size_in_bounds = header_fits_lem a.buffer.now a.used a.kind a.a a.b f;
      buffer_bound = held_small a.buffer.now a.used a.kind a.a a.b f;
    }

pub write_record-requires : goal.write_record-requires
write_record-requires c =
    let a = c.args in
    let same = asked a.buffer.now a.used a.kind a.a a.b _ _ c.fields_of-f.ensures c.is_term.ensures in
    let f = checks-fit a.buffer.now a.used (term a.kind a.a a.b) (sym (c.in_ok-check_addition.ensures ∙ same)) in
    let counted = c.raise_atoms.ensures ∙ ap (λ (r : Record). raised r.kind a.buffer.now) c.fields_of-f.ensures in
    omega (arith, f.room, raised-length a.buffer.now a.used a.kind a.a a.b f c.raise_atoms.new.buffer counted)

pub returns : goal.returns
returns c =
    let a = c.args in
    let same = asked a.buffer.now a.used a.kind a.a a.b _ _ c.fields_of-f.ensures c.is_term.ensures in
    let passed = c.in_ok-check_addition.ensures ∙ same in
    let both =
    term-answers a.buffer.now a.used a.kind a.a a.b
    (checks-fit a.buffer.now a.used (term a.kind a.a a.b) (sym passed)) c.raise_atoms.new.buffer _
    (adding_fine a.buffer.now a.used (term a.kind a.a a.b) passed)
    (c.raise_atoms.ensures ∙ ap (λ (r : Record). raised r.kind a.buffer.now) c.fields_of-f.ensures)
    (c.write_record.ensures
    ∙ ap (λ (r : Record). put c.raise_atoms.new.buffer a.used (record_bytes r)) c.fields_of-f.ensures) in
    record { result_value = both.0; buffer_after = both.1 }
