-- `scripts::run::Chain::used_column` meets its contract. Row 18 tells that the extension's terms are records, and its owner
-- small.
-- Assumes nothing.
use Prim.Native.Nat.{ℕ, ◌<◌}
use native.Mathlib.Omega.{arith}
use mathlib.Core.Path.{◌≡◌, ap, ◌∙◌}
use mathlib.Core.List.{List}
use mathlib.Core.Logic.{◌⊎◌, inl, inr}
use lib.ListN.{length}
use Rattle.records.proofs.Theorems.Accepted.{AcceptedFacts, accepted-vocabulary}
use Rattle.columns.specs.Columns.{Query, column_at}
use Rattle.columns.specs.Code.Packed.{packed_at}
use Rattle.scripts.specs.Steps.{Extension}
use Rattle.scripts.specs.Format.{entries, query_of, extension_of}
use Rattle.scripts.specs.Code.Codes.{TermRecord, origin, code_of, code_at}
use Rattle.scripts.specs.Code.Index.{code_in, origin_in, TermsBefore}
use Rattle.scripts.specs.Code.Numbered.{used_numbers}
use Rattle.scripts.specs.Code.Ready.{IsExtension}
use Rattle.scripts.specs.declared.entry.StepRecord.{StepRecord}
use Rattle.scripts.specs.declared.run.Chain.{Chain}
use Rattle.scripts.proofs.Theorems.Form.{KeepsForm, keeps_form}
use Rattle.scripts.proofs.Refinement.Origins.{origin-least}
use Rattle.scripts.proofs.Refinement.Extensions.{Extends, read_extends, term_coded, second_coded}
use Rattle.scripts.proofs.Invariants.Indexing.{number_code, number-second, number-origin}
use Rattle.scripts.proofs.run.Chain.used_column.Goals as goal

-- the term for y, or the header in its place, is in the table where x is
second-within : (s : List ℕ) (n m end : ℕ) → (n ≡ 0) ⊎ TermRecord s n → m < end → TermsBefore s end → n < end
second-within s n m end (inl z) h room = omega arith
second-within s n m end (inr t) h room = room n t

-- the column at the codes that were found
used_as : (v s : List ℕ) (q : Query) (e : Extension ℕ) (cx cy cf : ℕ) → q ≡ query_of s → cx ≡ code_at s e.first
    → cy ≡ code_at s e.second → cf ≡ code_of e.owner (origin s e.first)
    → packed_at cx cy cf (column_at v q e.owner e.column) ≡ used_numbers v s e
used_as v s q e cx cy cf r p k i = rw (r, p, k, i)

module _ (m : Chain) (step : StepRecord) (extension : IsExtension m.script.now step) where
  abbrev v : List ℕ
  v = m.vocabulary.bytes.now

  abbrev s : List ℕ
  s = m.script.now

  abbrev terms : List ℕ
  terms = m.terms.now

  good : AcceptedFacts v
  good = accepted-vocabulary _ _ m.vocabulary.accepted

  form : KeepsForm v s
  form = keeps_form v s m.form

  -- what row 18 tells
  extends : Extends v s (extension_of step.entry)
  extends = read_extends v s m.vocabulary.accepted m.form step extension

  -- the table has the two terms
  first-room : step.entry.w3 < length terms
  first-room = m.numbered.room _ extends.first

  second-room : step.entry.w4 < length terms
  second-room = second-within _ _ _ _ extends.second first-room m.numbered.room

  -- the codes of the two terms, and the origin of the first
  first_code : code_in terms step.entry.w3 ≡ code_at s step.entry.w3
  first_code = let x = extends.first in number_code v s good form terms (entries s) m.numbered _ x.within x

  second-code : code_in terms step.entry.w4 ≡ code_at s step.entry.w4
  second-code = number-second v s good form terms m.numbered _ extends.second

  first-origin : origin_in terms step.entry.w3 ≡ origin s step.entry.w3
  first-origin = let x = extends.first in number-origin v s good form terms (entries s) m.numbered _ x.within x

  origin-before : origin s step.entry.w3 < entries s
  origin-before = let x = extends.first in omega (arith, origin-least _ _ x, x.within)

pub code_in-x-requires : goal.code_in-x-requires
code_in-x-requires c = first-room c.args.self.now _ c.requires

pub code_in-y-requires : goal.code_in-y-requires
code_in-y-requires c = second-room c.args.self.now _ c.requires

pub origin_in-requires : goal.origin_in-requires
origin_in-requires c = first-room c.args.self.now _ c.requires

pub code_of-fx-requires : goal.code_of-fx-requires
code_of-fx-requires c =
    let m = c.args.self.now in
    let x = c.requires in
    omega (arith, c.origin_in.ensures ∙ first-origin m _ x, origin-before m _ x, (form m _ x).sized.most)

pub invariant_of-find_column : goal.invariant_of-find_column
invariant_of-find_column c =
    let m = c.args.self.now in
    let x = c.requires in
    let known = good m _ x in
    let kept = form m _ x in
    let e = extends m _ x in
    record {
      x_fits = rw (c.code_in-x.ensures ∙ first_code m _ x) (term_coded _ _ known kept _ e.first).code.0;
      y_fits = rw (c.code_in-y.ensures ∙ second-code m _ x) (second_coded _ _ known kept _ e.second).code.0;
      fx_fits = omega (
        arith,
        c.code_of-fx.ensures,
        e.small,
        c.origin_in.ensures ∙ first-origin m _ x,
        origin-before m _ x,
        kept.sized.most,
      );
    }

pub returns : goal.returns
returns c =
    let m = c.args.self.now in
    let x = c.requires in
    c.find_column.ensures
    ∙ used_as m.vocabulary.bytes.now m.script.now m.query (extension_of c.args.step.entry) _ _ _ m.asked
    (c.code_in-x.ensures ∙ first_code m _ x) (c.code_in-y.ensures ∙ second-code m _ x)
    (c.code_of-fx.ensures ∙ ap (code_of c.args.step.entry.w1) (c.origin_in.ensures ∙ first-origin m _ x))
