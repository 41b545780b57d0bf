-- `columns::group::group_shape` meets its contract. What the kind's number reads as says how many literals the columns have.
-- Assumes nothing.
use mathlib.Core.Path.{refl}
use mathlib.Core.Bool.{true, false}
use mathlib.Core.Logic.{inl, inr}
use Rattle.std.proofs.Common.{Some, None}
use Rattle.records.specs.Kinds.{kind_of}
use Rattle.records.specs.declared.kinds.Kind.TheVariants as kind
use Rattle.columns.specs.Columns.{takes_y}
use Rattle.columns.proofs.Refinement.Groups.{shape_read, plain_read, shape_restriction}
use Rattle.columns.proofs.group.group_shape.Goals as goal

pub returns-in_default : goal.returns-in_default
unfolding kind_of takes_y
returns-in_default c =
    λ i. plain_read c.args.fields i c.args.n _ None c.of.ensures c.in_default.is tt _ refl refl

pub returns-in-Name : goal.returns-in-Name
unfolding kind_of takes_y
returns-in-Name c =
    λ i. plain_read c.args.fields i c.args.n _ (Some kind.Name) c.of.ensures (cc) tt _ refl refl

pub returns-in-Top : goal.returns-in-Top
unfolding kind_of takes_y
returns-in-Top c =
    let a = c.args in
    let s = c.without_y.ensures in
    λ i. elim c.in-Top.is [
      | inl e ↦ plain_read a.fields i a.n _ (Some kind.Top) c.of.ensures (cc) (refl, tt) _ s.size s.takes
      | inr e ↦ plain_read a.fields i a.n _ (Some kind.Bottom) c.of.ensures (cc) (refl, tt) _ s.size s.takes
    ]

pub returns-in-Negation : goal.returns-in-Negation
unfolding kind_of takes_y
returns-in-Negation c =
    let a = c.args in
    let s = c.without_y-in-Negation.ensures in
    λ i. plain_read a.fields i a.n _ (Some kind.Negation) c.of.ensures (cc) (refl, (refl, tt)) _ s.size s.takes

pub returns-in-Conjunction : goal.returns-in-Conjunction
unfolding kind_of takes_y
returns-in-Conjunction c =
    let a = c.args in
    let s = c.without_y-in-Conjunction.ensures in
    λ i. elim c.in-Conjunction.is [
      | inl e ↦ plain_read a.fields i a.n _ (Some kind.Conjunction) c.of.ensures (cc) (refl, (refl, (refl, tt))) _ s.size s.takes
      | inr e ↦ plain_read a.fields i a.n _ (Some kind.Disjunction) c.of.ensures (cc) (refl, (refl, (refl, tt))) _ s.size s.takes
    ]

pub returns-in-Existential : goal.returns-in-Existential
unfolding kind_of takes_y
returns-in-Existential c =
    let a = c.args in
    let r = a.fields in
    let s = c.without_y-in-Existential.ensures in
    λ i. elim c.in-Existential.is [
      | inl e ↦ shape_read r i a.n _ (Some kind.Existential) c.of.ensures (cc) _
          (shape_restriction true i r.a r.b a.n _ s.size refl)
      | inr e ↦ shape_read r i a.n _ (Some kind.Universal) c.of.ensures (cc) _
          (shape_restriction false i r.a r.b a.n _ s.size refl)
    ]

pub returns-in-Inclusion : goal.returns-in-Inclusion
unfolding kind_of takes_y
returns-in-Inclusion c =
    let a = c.args in
    let s = c.without_y-in-Inclusion.ensures in
    λ i. plain_read a.fields i a.n _ (Some kind.Inclusion) c.of.ensures (cc) (refl, tt) _ s.size s.takes
