-- `scripts::index::Index::number` meets its contract. Where the record is a function term, the table has its inner term's origin.
-- Assumes nothing.
use Prim.Native.Nat.{ℕ, ◌≤◌, ◌<◌}
use native.Mathlib.Omega.{arith}
use mathlib.Core.Path.{◌≡◌, ap, ◌∙◌}
use mathlib.Core.List.{List}
use Rattle.records.proofs.Theorems.Accepted.{AcceptedFacts, accepted-vocabulary}
use Rattle.scripts.specs.Format.{entry_limit, entry_at, entries}
use Rattle.scripts.specs.Code.Codes.{code_of, code_at}
use Rattle.scripts.specs.Code.Index.{origin_in, IndexedBelow}
use Rattle.scripts.specs.Code.Ready.{HasEntry, Formed}
use Rattle.std.specs.Prelude.{Some}
use Rattle.std.proofs.lemmas.Grind.{common_steps}
use Rattle.scripts.specs.Code.Kinds.{kind_numbered}
use Rattle.scripts.specs.declared.entry.EntryKind.TheVariants as kind
use Rattle.scripts.specs.declared.entry.Entry.{Entry}
use Rattle.scripts.proofs.Theorems.Form.{KeepsForm, keeps_form}
use Rattle.scripts.proofs.Refinement.Lines.{numbered-as}
use Rattle.scripts.proofs.Refinement.Terms.{code_small}
use Rattle.scripts.proofs.Invariants.Indexing.{FunctionTerm, entered-before, code_inner, function-term}
use Rattle.scripts.proofs.Invariants.Indexing.{index_other, index_entered}
use Rattle.scripts.proofs.index.Index.number.Goals as goal

-- what the accepted vocabulary and the form of the script tell
good : (s : List ℕ) (f : Formed s) → AcceptedFacts f.vocabulary
good s f = accepted-vocabulary _ _ f.accepted

form : (s : List ℕ) (f : Formed s) → KeepsForm f.vocabulary s
form s f = keeps_form _ _ f.form

few : (s : List ℕ) (f : Formed s) → entries s ≤ entry_limit
few s f = omega (arith, (form s f).sized.most)

module _ (s : List ℕ) (i : ℕ) (f : Formed s) (h : HasEntry s i) where
  within : i < entries s
  within = omega arith

  module _ (links terms : List ℕ) (x : IndexedBelow s links terms i) (e : Entry) (read : e ≡ entry_at s i) (kind : e.w0 ≡ 2) where
    -- the record is a function term
    term : FunctionTerm s terms i e
    term = function-term _ _ (good s f) (form s f) _ _ x.table within _ read kind

    -- its code
    coded : (code first : ℕ) → code ≡ code_of e.w1 first → first ≡ origin_in terms e.w2 → code ≡ code_at s i
    coded code first c o = c ∙ ap (code_of e.w1) o ∙ term.code

pub origin-requires : goal.origin-requires
origin-requires c =
    let r = c.requires in
    let arm = c.in-Some-Term in
    let kind = numbered-as _ _ _ _ c.kind.ensures.number arm.is arm.field-0-is in
    let t : FunctionTerm c.args.s.now c.args.self.now.terms.now c.args.i c.read_at-e.result =
    term _ _ r.formed r.has_entry _ _ r.indexed_below _ c.read_at-e.ensures kind in
    omega (arith, t.inner, r.indexed_below.table.room _ t.term)

pub code_of-code-requires : goal.code_of-code-requires
code_of-code-requires c =
    let r = c.requires in
    let arm = c.in-Some-Term in
    let kind = numbered-as _ _ _ _ c.kind.ensures.number arm.is arm.field-0-is in
    let t : FunctionTerm c.args.s.now c.args.self.now.terms.now c.args.i c.read_at-e.result =
    term _ _ r.formed r.has_entry _ _ r.indexed_below _ c.read_at-e.ensures kind in
    omega (arith, c.origin.ensures, t.before, within _ _ r.formed r.has_entry, few _ r.formed)

pub enter-origin-requires : goal.enter-origin-requires
enter-origin-requires c =
    let r = c.requires in
    let arm = c.in-Some-Term in
    let kind = numbered-as _ _ _ _ c.kind.ensures.number arm.is arm.field-0-is in
    let s = c.args.s.now in
    let t : FunctionTerm s c.args.self.now.terms.now c.args.i c.read_at-e.result =
    term _ _ r.formed r.has_entry _ _ r.indexed_below _ c.read_at-e.ensures kind in
    let code : c.code_of-code.result ≡ code_at s c.args.i =
    coded _ _ r.formed r.has_entry _ _ r.indexed_below _ c.read_at-e.ensures kind _ _
    c.code_of-code.ensures c.origin.ensures in
    record {
      tree = r.indexed_below.tree;
      function_limit_in_bounds = omega (
        arith,
        code_inner _ _ (good s r.formed) (form s r.formed) _ _ t.term t.kind code,
        r.indexed_below.table.room _ t.term,
      );
    }

pub overflow_cast-i : goal.overflow_cast-i
overflow_cast-i c =
    let r = c.requires in
    omega (arith, within _ _ r.formed r.has_entry, few _ r.formed)

pub overflow_mul-self : goal.overflow_mul-self
overflow_mul-self c =
    let r = c.requires in
    omega (
      arith,
      entered-before _ _ _ _ _ r.indexed_below _ _ c.enter-origin.ensures.entered,
      within _ _ r.formed r.has_entry,
      few _ r.formed,
    )

pub overflow_add-self : goal.overflow_add-self
overflow_add-self c =
    let r = c.requires in
    let arm = c.in-Some-Term in
    let kind = numbered-as _ _ _ _ c.kind.ensures.number arm.is arm.field-0-is in
    let s = c.args.s.now in
    let t : FunctionTerm s c.args.self.now.terms.now c.args.i c.read_at-e.result =
    term _ _ r.formed r.has_entry _ _ r.indexed_below _ c.read_at-e.ensures kind in
    omega (
      arith,
      coded _ _ r.formed r.has_entry _ _ r.indexed_below _ c.read_at-e.ensures kind _ _
          c.code_of-code.ensures c.origin.ensures,
      code_small _ _ (good s r.formed) (form s r.formed) _ t.term,
      entered-before _ _ _ _ _ r.indexed_below _ _ c.enter-origin.ensures.entered,
      within _ _ r.formed r.has_entry,
      few _ r.formed,
    )

pub returns-in-Some-Term : goal.returns-in-Some-Term
returns-in-Some-Term c =
    let r = c.requires in
    let arm = c.in-Some-Term in
    let kind = numbered-as _ _ _ _ c.kind.ensures.number arm.is arm.field-0-is in
    let s = c.args.s.now in
    let t : FunctionTerm s c.args.self.now.terms.now c.args.i c.read_at-e.result =
    term _ _ r.formed r.has_entry _ _ r.indexed_below _ c.read_at-e.ensures kind in
    let code : c.code_of-code.result ≡ code_at s c.args.i =
    coded _ _ r.formed r.has_entry _ _ r.indexed_below _ c.read_at-e.ensures kind _ _
    c.code_of-code.ensures c.origin.ensures in
    rw c.enter-origin.ensures.same
    (index_entered _ _ (good s r.formed) (form s r.formed) _ _ _ r.indexed_below r.lt_i _ t.term code t.kind _ _
    c.enter-origin.ensures.entered)

pub returns : goal.returns
returns c =
    let r = c.requires in
    let s = c.args.s.now in
    index_other _ _ (good s r.formed) (form s r.formed) _ _ _ r.indexed_below r.lt_i
    (λ k. let e : c.kind.result ≡ Some kind.Term
    = c.kind.ensures.number ∙ ap kind_numbered (ap (λ (y : Entry). y.w0) c.read_at-e.ensures ∙ k) in
    grind (arith, common_steps))
