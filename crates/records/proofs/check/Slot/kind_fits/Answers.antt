-- `records::check::Slot::kind_fits` meets its contract: kinds that share an arm hold the same.
-- Assumes nothing.
use mathlib.Core.Path.{◌≡◌, ◌∙◌, ap}
use mathlib.Core.Logic.{inl, inr}
use Rattle.records.specs.Code.Fields.{all_fit}
use Rattle.records.specs.Code.Kinds.{number_of_kind}
use Rattle.records.specs.Kinds.{kind_of, sorts_of}
use Rattle.records.specs.declared.kinds.Sorts.{Sorts}
use Rattle.records.proofs.check.Slot.kind_fits.Goals as goal

pub returns-in-Top : goal.returns-in-Top
unfolding kind_of
returns-in-Top c =
    let a = c.args in
    let same : c.sorts.result ≡ sorts_of (number_of_kind a.kind) =
    c.sorts.ensures ∙ elim c.in-Top.is [ inl e ↦ rw e | inr e ↦ rw e ] in
    c.fields_fit.ensures ∙ ap (λ (s : Sorts). all_fit a.self.now.v.now a.self.now.i s a.f) same

pub returns-in-Conjunction : goal.returns-in-Conjunction
unfolding kind_of
returns-in-Conjunction c =
    let a = c.args in
    let same : c.sorts-in-Conjunction.result ≡ sorts_of (number_of_kind a.kind) =
    c.sorts-in-Conjunction.ensures ∙ elim c.in-Conjunction.is [ inl e ↦ rw e | inr e ↦ rw e ] in
    c.fields_fit-in-Conjunction.ensures ∙ ap (λ (s : Sorts). all_fit a.self.now.v.now a.self.now.i s a.f) same

pub returns-in-Existential : goal.returns-in-Existential
unfolding kind_of
returns-in-Existential c =
    let a = c.args in
    let same : c.sorts-in-Existential.result ≡ sorts_of (number_of_kind a.kind) =
    c.sorts-in-Existential.ensures ∙ elim c.in-Existential.is [ inl e ↦ rw e | inr e ↦ rw e ] in
    c.fields_fit-in-Existential.ensures ∙ ap (λ (s : Sorts). all_fit a.self.now.v.now a.self.now.i s a.f) same
