-- `records::kinds::Kind::sorts` meets its contract, kind by kind.
-- Assumes nothing.
use mathlib.Core.Logic.{inl, inr}
use Rattle.records.specs.Kinds.{kind_of}
use Rattle.records.proofs.kinds.Kind.sorts.Goals as goal

pub returns-in-Top : goal.returns-in-Top
unfolding kind_of
returns-in-Top c = elim c.in-Top.is [ inl e ↦ rw e | inr e ↦ rw e ]

pub returns-in-Name : goal.returns-in-Name
unfolding kind_of
returns-in-Name c = rw c.in-Name.is

pub returns-in-Negation : goal.returns-in-Negation
unfolding kind_of
returns-in-Negation c = rw c.in-Negation.is

pub returns-in-Conjunction : goal.returns-in-Conjunction
unfolding kind_of
returns-in-Conjunction c = elim c.in-Conjunction.is [ inl e ↦ rw e | inr e ↦ rw e ]

pub returns-in-Existential : goal.returns-in-Existential
unfolding kind_of
returns-in-Existential c = elim c.in-Existential.is [ inl e ↦ rw e | inr e ↦ rw e ]

pub returns-in-Inclusion : goal.returns-in-Inclusion
unfolding kind_of
returns-in-Inclusion c = rw c.in-Inclusion.is
