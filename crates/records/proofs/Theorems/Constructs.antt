-- What the records of an accepted vocabulary say.
--   record_past                                                        there is nothing past the end
--   says_past                                                          kinds past 9 say nothing of an element
--   construct_same                                                     what a record says goes by its kind, A and B
--   construct_over                                                     what holds of operands, whichever record it is
--   Earlier, construct_earlier                                         operands come before the record, whichever record it is
--   construct_role                                                     a restriction's role is below the count
--   atomic, construct_atom                                             atoms by what they say
--   restricting, construct_restriction, stating, construct_statement   restrictions and statements by what they say
--   construct_inclusion                                                a statement says that A lies within B
-- Assumes nothing.
use Prim.Native.Nat.{ℕ, zero, suc, ◌+◌, ◌*◌, ◌-◌, ◌≤◌, ◌<◌}
use native.Mathlib.Omega.{arith}
use native.Mathlib.Decide.{dec_lt}
use mathlib.Core.Path.{◌≡◌, refl, sym, ap, subst, ◌∙◌}
use mathlib.Core.Bool.{Bool, true, beq}
use mathlib.Core.List.{List}
use lib.ListN.{get_or, take, drop, drop_of_length-le}
use lib.Seq.{get_or-drop}
use Rattle.records.specs.Format.{record_size, record_at, count, role_count}
use Rattle.records.specs.Kinds.{Construct, none, inclusion, construct_of, are_atoms, are_restrictions, are_statements}
use Rattle.records.specs.Kinds.{Kind, no_kind, kind_of, kinds, is_atom, is_restriction, is_statement}
use Rattle.records.specs.declared.fields.Record.{Record}
use Rattle.records.proofs.Theorems.Accepted.{Sized, AcceptedFacts, WellFounded, Operand, Over, over-map, parts_of}
use Rattle.records.proofs.Theorems.Accepted.{fields_well_founded}
use Rattle.records.proofs.Laws.Ranges.{tested, kind_tested, same_true}
use Rattle.records.proofs.Laws.Lists.{all_default}
use Rattle.records.specs.declared.kinds.Class.{Class}
pub use Rattle.records.proofs.Laws.Ranges.{kind_past}
pub use Rattle.records.proofs.Theorems.Accepted.{RoleBelow}

pub record_past : (v : List ℕ) (i : ℕ) → Sized v → count v ≤ i → (record_at v i).kind ≡ 0
unfolding record_at
record_past v i s h =
    ap (λ (l : List ℕ). get_or (take record_size l) 0 0) (drop_of_length-le v {i = record_size * i} (omega (arith, s.whole)))

-- Kinds past 9 say nothing of an element: none of the table, and none past it.
pub says_past : (k : ℕ) → 9 < k → (r : Record) → (kind_of k).says r ≡ none
unfolding kind_of
says_past k h r =
    let same : 10 + (k - 10) ≡ k = omega arith in
    subst (λ (n : ℕ). (get_or kinds n no_kind).says r ≡ none) same
    (subst (λ (e : Kind). e.says r ≡ none) (get_or-drop 10 kinds (k - 10) no_kind)
    (all_default (λ e. e.says r ≡ none) (drop 10 kinds) no_kind refl tt (k - 10)))

-- What a record says goes by its kind, A and B.
pub construct_same : (r q : Record) → r.kind ≡ q.kind → r.a ≡ q.a → r.b ≡ q.b → construct_of r ≡ construct_of q
unfolding kind_of
construct_same r q e a b =
    let same : (k : Kind) → Type 0 = λ k. k.says r ≡ k.says q in
    ap (λ (k : ℕ). (kind_of k).says r) e
    ∙ all_default same kinds no_kind refl
    (refl, (refl, (refl, (refl, (rw a, (rw (a, b), (rw (a, b), (rw (a, b), (rw (a, b), (rw (a, b), tt)))))))))) q.kind

-- The operands of what record i says are records before it.
abbrev pub Earlier : ℕ → Construct → Type 0
Earlier i c = Over (λ j. j < i) c

module _ (v : List ℕ) (good : AcceptedFacts v) where
  pub construct_well_founded : (i : ℕ) → 0 < i → i < count v → WellFounded v i (construct_of (record_at v i))
  construct_well_founded i l h = fields_well_founded v i (record_at v i) (record_at v i).kind (good.fields i l h)

  pub construct_role : (i : ℕ) → 0 < i → i < count v → RoleBelow (role_count v) (construct_of (record_at v i))
  construct_role i l h = (construct_well_founded i l h).0

  silent : (i : ℕ) → kind_of (record_at v i).kind ≡ no_kind → construct_of (record_at v i) ≡ none
  silent i e = ap (λ (k : Kind). k.says (record_at v i)) e

  header_silent : construct_of (record_at v 0) ≡ none
  header_silent = silent 0 (kind_past (record_at v 0).kind (omega (arith, good.header)))

  past_silent : (i : ℕ) → count v ≤ i → construct_of (record_at v i) ≡ none
  unfolding kind_of
  past_silent i h = silent i (ap kind_of (record_past v i good.sized h))

  -- operands are earlier terms, whichever record it is
  pub construct_over : (i : ℕ) → Over (Operand v i) (construct_of (record_at v i))
  construct_over zero = subst (Over (Operand v 0)) (sym header_silent) tt
  construct_over (suc i) = at (dec_lt (suc i) (count v))
    where
      at : Dec (suc i < count v) → Over (Operand v (suc i)) (construct_of (record_at v (suc i)))
      at (yes h) = (construct_well_founded (suc i) (omega arith) h).1
      at (no n) = subst (Over (Operand v (suc i))) (sym (past_silent (suc i) (omega arith))) tt

  pub construct_earlier : (i : ℕ) → Earlier i (construct_of (record_at v i))
  construct_earlier i = over-map (Operand v i) (λ j. j < i) (λ j o. o.earlier) (construct_of (record_at v i)) (construct_over i)

-- A test of kinds, by what their records say.
construct_class : (are : Class → Bool) (r : Record)
    → tested (λ n k. beq (are k.class) (are (parts_of (k.says r)).class)) 0 kinds ≡ true
    → beq (are no_kind.class) (are no_kind.class) ≡ true
    → are (kind_of r.kind).class ≡ are (parts_of (construct_of r)).class
construct_class are r each past =
    same_true _ _ (kind_tested (λ n k. beq (are k.class) (are (parts_of (k.says r)).class)) each (λ k h. past) r.kind)

-- Atoms by what they say.
abbrev pub atomic : Construct → Bool
atomic c = are_atoms (parts_of c).class

pub construct_atom : (r : Record) → is_atom r.kind ≡ atomic (construct_of r)
construct_atom r = construct_class are_atoms r refl refl

-- Restrictions by what they say.
abbrev pub restricting : Construct → Bool
restricting c = are_restrictions (parts_of c).class

pub construct_restriction : (r : Record) → is_restriction r.kind ≡ restricting (construct_of r)
construct_restriction r = construct_class are_restrictions r refl refl

-- Statements by what they say.
abbrev pub stating : Construct → Bool
stating c = are_statements (parts_of c).class

pub construct_statement : (r : Record) → is_statement r.kind ≡ stating (construct_of r)
construct_statement r = construct_class are_statements r refl refl

pub construct_inclusion : (r : Record) → r.kind ≡ 9 → construct_of r ≡ inclusion r.a r.b
unfolding kind_of
construct_inclusion r e = ap (λ (k : ℕ). (kind_of k).says r) e
