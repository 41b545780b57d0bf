-- `columns::group::group_column` meets its contract. What the kind's number reads as says which columns the record has, if any.
-- Assumes nothing.
use mathlib.Core.Path.{◌∙◌}
use Rattle.std.proofs.Common.{Some, None}
use Rattle.records.specs.Kinds.{kind_of}
use Rattle.records.specs.declared.kinds.Kind.TheVariants as kind
use Rattle.columns.proofs.Refinement.Groups.{column_read}
use Rattle.columns.proofs.group.group_column.Goals as goal

pub returns-in_default : goal.returns-in_default
unfolding kind_of
returns-in_default c = column_read c.args.fields c.args.i c.args.n _ None c.of.ensures c.in_default.is c.args.at

pub returns-in-Name : goal.returns-in-Name
unfolding kind_of
returns-in-Name c = column_read c.args.fields c.args.i c.args.n _ (Some kind.Name) c.of.ensures (cc) c.args.at

pub returns-in-Top : goal.returns-in-Top
unfolding kind_of
returns-in-Top c =
    let a = c.args in
    c.constant_column.ensures ∙ column_read a.fields a.i a.n _ (Some kind.Top) c.of.ensures (cc) a.at

pub returns-in-Bottom : goal.returns-in-Bottom
unfolding kind_of
returns-in-Bottom c =
    let a = c.args in
    c.constant_column-in-Bottom.ensures ∙ column_read a.fields a.i a.n _ (Some kind.Bottom) c.of.ensures (cc) a.at

pub returns-in-Negation : goal.returns-in-Negation
unfolding kind_of
returns-in-Negation c =
    let a = c.args in
    c.negation_column.ensures ∙ column_read a.fields a.i a.n _ (Some kind.Negation) c.of.ensures (cc) a.at

pub returns-in-Conjunction : goal.returns-in-Conjunction
unfolding kind_of
returns-in-Conjunction c =
    let a = c.args in
    c.junction_column.ensures ∙ column_read a.fields a.i a.n _ (Some kind.Conjunction) c.of.ensures (cc) a.at

pub returns-in-Disjunction : goal.returns-in-Disjunction
unfolding kind_of
returns-in-Disjunction c =
    let a = c.args in
    c.junction_column-in-Disjunction.ensures ∙ column_read a.fields a.i a.n _ (Some kind.Disjunction) c.of.ensures (cc) a.at

pub returns-in-Existential : goal.returns-in-Existential
unfolding kind_of
returns-in-Existential c =
    let a = c.args in
    c.restriction_column.ensures ∙ column_read a.fields a.i a.n _ (Some kind.Existential) c.of.ensures (cc) a.at

pub returns-in-Universal : goal.returns-in-Universal
unfolding kind_of
returns-in-Universal c =
    let a = c.args in
    c.restriction_column-in-Universal.ensures ∙ column_read a.fields a.i a.n _ (Some kind.Universal) c.of.ensures (cc) a.at

pub returns-in-Inclusion : goal.returns-in-Inclusion
unfolding kind_of
returns-in-Inclusion c =
    let a = c.args in
    c.inclusion_column.ensures ∙ column_read a.fields a.i a.n _ (Some kind.Inclusion) c.of.ensures (cc) a.at
