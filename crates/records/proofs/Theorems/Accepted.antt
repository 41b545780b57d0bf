-- What acceptance gives the crates above: fields hold what their sorts say, so that operands are earlier terms and roles are
-- below the count; labels differ, and links lead to later statements.
--   Sized, length_passed                           what row 1 tells
--   Parts, parts_of, Over, over-map                 a construct's class, its roles and its operands; what holds of each operand
--   Operand, Linked, SortHolds, WellFounded, AcceptedFacts   what is told of a field, of a record, of a vocabulary
--   RowsPassed, well_formed_rows                   rows 1 to 8 one by one, of a vocabulary that passed them
--   well_formed_vocabulary                         such a vocabulary gives AcceptedFacts
--   RowsAccepted, rows-accepted, rows-vocabulary   rows 1 to 8 and 28, of one that passed all, which so gives AcceptedFacts
--   accepted-rows                                  an accepted one passed all
--   accepted_well_formed, accepted-vocabulary      an accepted one passed rows 1 to 8, and so gives AcceptedFacts
--   vocabulary-refused, vocabulary_then            what the vocabulary check refuses; what comes after it
-- Assumes nothing.
use Prim.Native.Nat.{ℕ, ◌-◌, ◌*◌, ◌%◌, ◌≤◌, ◌<◌}
use native.Mathlib.Omega.{arith}
use mathlib.Core.Path.{◌≡◌, refl, sym, subst, ◌∙◌}
use mathlib.Core.Bool.{Bool, true, false, ◌&&◌, ◌||◌}
use mathlib.Core.List.{List, [], ◌∷◌}
use lib.ListN.{length}
use mathlib.Core.Logic.{inl, inr}
use lib.Dec.{ltb, leb, eqb}
use borrow.Author.Tests.{ltb-true, leb-true, eqb-true, eq-eqb, not-true}
use Rattle.records.specs.Finite.{occurs}
use Rattle.records.specs.Outcome.{Outcome, Check, accepted, refused, pass, ◌then◌, in_turn}
use Rattle.records.specs.Format.{record_size, record_limit, role_limit, record_at, count, first_statement, role_count}
use Rattle.records.specs.Kinds.{Construct, none, top, bottom, name, negation, conjunction, disjunction, existential}
use Rattle.records.specs.Kinds.{universal, inclusion, sorts, negation_fields, restriction_fields}
use Rattle.records.specs.Kinds.{Kind, no_kind, kinds, kind_of, sorts_of, is_term, is_statement}
use Rattle.records.specs.declared.kinds.Sorts.{Sorts}
use Rattle.records.specs.Check.{first_statement_check, length_fits, length_check, header_fits, header_check, kind_check, named}
use Rattle.records.specs.Check.{labelled, term_fits, link_fits, rows_check, record_check, next_fits, link_check, links_check}
use Rattle.records.specs.Check.{IsWellFormed, records_check, held_fits, held_check, vocabulary_rows, vocabulary_check}
use Rattle.records.specs.Atoms.{atoms}
use Rattle.records.specs.Code.Fields.{field_fits}
use Rattle.records.specs.declared.fields.Record.{Record}
use Rattle.records.specs.declared.kinds.Sort.{Sort}
use Rattle.records.specs.declared.kinds.Sort.TheVariants.{Spare, Term, Role, Label, Link}
use Rattle.records.proofs.Laws.Tests.{clash, both_left, both_right}
use Rattle.records.proofs.Laws.Checks.{then_stops, require_passed, then_passed, turn_at}
use Rattle.records.proofs.Laws.Search.{any_at}
use Rattle.records.proofs.Theorems.Following.{Ahead, Onward}
use Rattle.records.proofs.Laws.Ranges.{statement_range, statement-kind}
use Rattle.records.proofs.Refinement.Rows.{rows_passed}
use Rattle.records.proofs.Laws.Lists.{All, all_map, all_default}
use Rattle.records.specs.declared.kinds.Class.{Class}
use Rattle.records.specs.declared.kinds.Class.TheVariants.{Silent, Connective, Name, Restriction, Statement}

-- Row 1 passed: 8 to 4,096 bytes, a multiple of 8.
pub record Sized (v : List ℕ) : Type 0 where
  pub least : record_size ≤ length v
  pub most : length v ≤ record_size * record_limit
  pub whole : length v % record_size ≡ 0

pub length_passed : (v : List ℕ) → length_check v ≡ pass → Sized v
length_passed v e =
    let fit : length_fits v ≡ true = require_passed (length_fits v) 1 0 e in
    let rest = both_right (leb record_size (length v))
    (leb (length v) (record_size * record_limit) && eqb (length v % record_size) 0) fit in
    record {
      least = leb-true _ _ (both_left (leb record_size (length v))
          (leb (length v) (record_size * record_limit) && eqb (length v % record_size) 0) fit);
      most = leb-true _ _ (both_left (leb (length v) (record_size * record_limit)) (eqb (length v % record_size) 0) rest);
      whole = eqb-true _ _ (both_right (leb (length v) (record_size * record_limit)) (eqb (length v % record_size) 0) rest);
    }

-- A construct taken apart: what it is, the roles and the records that it speaks of.
pub record Parts : Type 0 where
  pub class : Class
  pub roles : List ℕ
  pub operands : List ℕ

abbrev parts : Class → List ℕ → List ℕ → Parts
parts class roles operands = record { class = class; roles = roles; operands = operands }

abbrev pub parts_of : Construct → Parts
parts_of none = parts Silent [] []
parts_of top = parts Connective [] []
parts_of bottom = parts Connective [] []
parts_of name = parts Name [] []
parts_of (negation a) = parts Connective [] (a ∷ [])
parts_of (conjunction a b) = parts Connective [] (a ∷ b ∷ [])
parts_of (disjunction a b) = parts Connective [] (a ∷ b ∷ [])
parts_of (existential r b) = parts Restriction (r ∷ []) (b ∷ [])
parts_of (universal r b) = parts Restriction (r ∷ []) (b ∷ [])
parts_of (inclusion a b) = parts Statement [] (a ∷ b ∷ [])

-- P of each operand of what a record says.
abbrev pub Over : (ℕ → Type 0) → Construct → Type 0
Over P c = All P (parts_of c).operands

pub over-map : (P Q : ℕ → Type 0) → ((j : ℕ) → P j → Q j) → (c : Construct) → Over P c → Over Q c
over-map P Q f c t = all_map P Q f (parts_of c).operands t

-- The role of a restriction is below n.
abbrev pub RoleBelow : ℕ → Construct → Type 0
RoleBelow n c = All (λ r. r < n) (parts_of c).roles

-- x is the number of a term before record i.
pub record Operand (v : List ℕ) (i x : ℕ) : Type 0 where
  pub positive : 0 < x
  pub earlier : x < i
  pub term : is_term (record_at v x).kind ≡ true

abbrev pub IsStatement : List ℕ → ℕ → Type 0
IsStatement v x = (record_at v x).kind ≡ 9

-- x is a statement after record i.
abbrev pub Later : List ℕ → ℕ → ℕ → Type 0
Later v i x = Ahead (IsStatement v) (count v) i x

-- x ends the chain, or is a statement after record i.
abbrev pub Linked : List ℕ → ℕ → ℕ → Type 0
Linked v i x = Onward (IsStatement v) (count v) i x

-- x fits a field of record i that holds this sort. (A link is looked at after all records.)
abbrev pub SortHolds : List ℕ → ℕ → Sort → ℕ → Type 0
SortHolds v i Spare x = x ≡ 0
SortHolds v i Term x = Operand v i x
SortHolds v i Role x = x < role_count v
SortHolds v i Label x = labelled v i 3 x ≡ false
SortHolds v i Link x = Unit {0}

pub record Fields (v : List ℕ) (i : ℕ) (s : Sorts) (r : Record) : Type 0 where
  pub a : SortHolds v i s.a r.a
  pub b : SortHolds v i s.b r.b
  pub next : SortHolds v i s.next r.next

-- What record i says is about earlier terms and roles below the count.
abbrev pub WellFounded : List ℕ → ℕ → Construct → Type 0
WellFounded v i c = RoleBelow (role_count v) c × Over (Operand v i) c

pub record AcceptedFacts (v : List ℕ) : Type 0 where
  pub sized : Sized v
  pub header : (record_at v 0).kind ≡ 16
  pub roles : role_count v ≤ role_limit
  pub fields : (i : ℕ) → 0 < i → i < count v → Fields v i (sorts_of (record_at v i).kind) (record_at v i)
  pub labels : (i j : ℕ) → j < i → i < count v
      → (record_at v i).kind ≡ 3 → (record_at v j).kind ≡ 3 → (record_at v i).a ≡ (record_at v j).a → ⊥
  pub first : Linked v 0 (first_statement v)
  pub rises : (i : ℕ) → 0 < i → i < count v → (record_at v i).kind ≡ 9 → Linked v i (record_at v i).next

module _ (v : List ℕ) (i : ℕ) where
  operand : (x : ℕ) → term_fits v i x ≡ true → Operand v i x
  operand x e =
      let rest = both_right (leb 1 x) (ltb x i && is_term (record_at v x).kind) e in
      record {
        positive = leb-true 1 x (both_left (leb 1 x) (ltb x i && is_term (record_at v x).kind) e);
        earlier = ltb-true x i (both_left (ltb x i) (is_term (record_at v x).kind) rest);
        term = both_right (ltb x i) (is_term (record_at v x).kind) rest;
      }

  linked : (x : ℕ) → link_fits v i x ≡ true → Linked v i x
  linked x e = at (eqb x 0) refl e
    where
      at : (z : Bool) → eqb x 0 ≡ z → (z || (ltb i x && (ltb x (count v) && is_statement (record_at v x).kind))) ≡ true
          → Linked v i x
      at true q h = inl (eqb-true x 0 q)
      at false q h =
          let rest = both_right (ltb i x) (ltb x (count v) && is_statement (record_at v x).kind) h in
          let is = both_right (ltb x (count v)) (is_statement (record_at v x).kind) rest in
          inr record {
            later = ltb-true i x (both_left (ltb i x) (ltb x (count v) && is_statement (record_at v x).kind) h);
            within = ltb-true x (count v) (both_left (ltb x (count v)) (is_statement (record_at v x).kind) rest);
            target = statement-kind (record_at v x).kind is;
          }

  field_held : (sort : Sort) (x : ℕ) → field_fits v i sort x ≡ true → SortHolds v i sort x
  unfolding field_fits occurs
  field_held Spare x e = eqb-true x 0 e
  field_held Term x e = operand x e
  field_held Role x e = ltb-true x (role_count v) e
  field_held Label x e = not-true (labelled v i 3 x) e
  field_held Link x e = tt

  -- rows 4 to 7 passed
  rows-held : (s : Sorts) (r : Record) → rows_check v i s r ≡ pass → Fields v i s r
  rows-held s r e =
      let fit = rows_passed v i s r e in
      record {
        a = field_held s.a r.a fit.0;
        b = field_held s.b r.b fit.1;
        next = field_held s.next r.next fit.2;
      }

  record_held : record_check v i ≡ pass → Fields v i (sorts_of (record_at v i).kind) (record_at v i)
  unfolding record_check
  record_held e =
      let r = record_at v i in
      rows-held (sorts_of r.kind) r (then_passed (kind_check r i) (rows_check v i (sorts_of r.kind) r) tt e).1

  -- what the fields of a record hold, and what it says
  abbrev FieldsWellFounded : Record → Kind → Type 0
  FieldsWellFounded r k = Fields v i k.fields r → WellFounded v i (k.says r)

  pub fields_well_founded : (r : Record) (k : ℕ) → FieldsWellFounded r (kind_of k)
  unfolding kind_of
  fields_well_founded r k =
      all_default (FieldsWellFounded r) kinds no_kind nothing
      (nothing, (nothing, (nothing, (nothing, (one, (two, (two, (restricted, (restricted, (two, tt)))))))))) k
    where
      nothing : {s : Sorts} → Fields v i s r → WellFounded v i none
      nothing f = (tt, tt)

      one : Fields v i negation_fields r → WellFounded v i (negation r.a)
      one f = (tt, (f.a, tt))

      two : {next : Sort} → Fields v i (sorts Term Term next) r → WellFounded v i (conjunction r.a r.b)
      two f = (tt, (f.a, (f.b, tt)))

      restricted : Fields v i restriction_fields r → WellFounded v i (existential r.a r.b)
      restricted f = ((f.a, tt), (f.b, tt))

  record_unlabelled : Fields v i (sorts_of (record_at v i).kind) (record_at v i) → (record_at v i).kind ≡ 3
      → labelled v i 3 (record_at v i).a ≡ false
  unfolding kind_of
  record_unlabelled f q = at (record_at v i).kind q f.a
    where
      at : (k : ℕ) → k ≡ 3 → SortHolds v i (sorts_of k).a (record_at v i).a → labelled v i 3 (record_at v i).a ≡ false
      at k e h = subst (λ (k : ℕ). SortHolds v i (sorts_of k).a (record_at v i).a) e h

  record_linked : link_check v i ≡ pass → (record_at v i).kind ≡ 9 → Linked v i (record_at v i).next
  unfolding link_check
  record_linked e q =
      let fit : next_fits v i ≡ true = require_passed (next_fits v i) 8 i e in
      let is : is_statement (record_at v i).kind ≡ true = statement_range (record_at v i).kind ∙ eq-eqb _ 9 q in
      linked (record_at v i).next (rw is at fit)

-- What passed, row by row.
pub record RowsPassed (v : List ℕ) : Type 0 where
  pub length : length_check v ≡ pass
  pub header : header_check v ≡ pass
  pub each : (i : ℕ) → 0 < i → i < count v → record_check v i ≡ pass
  pub first : first_statement_check v ≡ pass
  pub links : (i : ℕ) → 0 < i → i < count v → link_check v i ≡ pass

pub well_formed_rows : (v : List ℕ) → IsWellFormed v → RowsPassed v
unfolding records_check
well_formed_rows v e =
    let records = in_turn (record_check v) 1 (count v - 1) in
    let links = in_turn (link_check v) 1 (count v - 1) in
    let a = then_passed (length_check v) (header_check v then records then links_check v) tt e in
    let b = then_passed (header_check v) (records then links_check v) tt a.1 in
    let c = then_passed records (links_check v) tt b.1 in
    let l = then_passed (first_statement_check v) links tt c.1 in
    record {
      length = a.0;
      header = b.0;
      each = λ i p h. turn_at (record_check v) (count v - 1) 1 c.0 i p (omega arith);
      first = l.0;
      links = λ i p h. turn_at (link_check v) (count v - 1) 1 l.1 i p (omega arith);
    }

-- The theorem: a vocabulary that passed rows 1 to 8.
pub well_formed_vocabulary : (v : List ℕ) → IsWellFormed v → AcceptedFacts v
well_formed_vocabulary v e =
    let passed = well_formed_rows v e in
    let r = record_at v 0 in
    let fit : header_fits r ≡ true = require_passed (header_fits r) 2 0 passed.header in
    let edition = eqb r.second 2 || (eqb r.second 1 && eqb r.next 0) in
    let after = both_right (eqb r.kind 16) (leb r.b role_limit && edition) fit in
    record {
      sized = length_passed v passed.length;
      header = eqb-true r.kind 16 (both_left (eqb r.kind 16) (leb r.b role_limit && edition) fit);
      roles = leb-true r.b role_limit (both_left (leb r.b role_limit) edition after);
      fields = λ i p h. record_held v i (passed.each i p h);
      labels = λ i j p h q k same.
          let clear = record_unlabelled v i (record_held v i (passed.each i (omega arith) h)) q in
          let at = any_at (named v 3 (record_at v i).a) i clear j p in
          let hit : named v 3 (record_at v i).a j ≡ true = rw (eq-eqb _ 3 k, eq-eqb _ _ (sym same)) in
          clash (cc);
      first = linked v 0 (first_statement v) (require_passed (link_fits v 0 (first_statement v)) 8 0 passed.first);
      rises = λ i p h q. record_linked v i (passed.links i p h) q;
    }

-- What all rows of the vocabulary check tell: those of rows 1 to 8, and row 28.
pub record RowsAccepted (v : List ℕ) : Type 0 where
  pub well : IsWellFormed v
  pub held : held_fits v ≡ true

pub rows-accepted : (v : List ℕ) → vocabulary_rows v ≡ pass → RowsAccepted v
unfolding vocabulary_rows
rows-accepted v e =
    let both = then_passed (records_check v) (held_check v) tt e in
    record { well = both.0; held = require_passed (held_fits v) 28 (atoms v) both.1 }

pub rows-vocabulary : (v : List ℕ) → vocabulary_rows v ≡ pass → AcceptedFacts v
rows-vocabulary v e = well_formed_vocabulary v (rows-accepted v e).well

-- What the vocabulary check accepts passed all rows.
pub accepted-rows : (v : List ℕ) (n : ℕ) → vocabulary_check v ≡ accepted n → vocabulary_rows v ≡ pass
unfolding vocabulary_check
accepted-rows v n e = (then_passed (vocabulary_rows v) (accepted (count v)) n e).0

pub accepted_well_formed : (v : List ℕ) (n : ℕ) → vocabulary_check v ≡ accepted n → IsWellFormed v
accepted_well_formed v n e = (rows-accepted v (accepted-rows v n e)).well

pub accepted-vocabulary : (v : List ℕ) (n : ℕ) → vocabulary_check v ≡ accepted n → AcceptedFacts v
accepted-vocabulary v n e = rows-vocabulary v (accepted-rows v n e)

-- What it refuses, its rows refuse.
pub vocabulary-refused : (v : List ℕ) (n p : ℕ) → vocabulary_check v ≡ refused n p → vocabulary_rows v ≡ refused n p
unfolding vocabulary_check
vocabulary-refused v n p e = then_stops (vocabulary_rows v) (count v) n p e

-- What comes after the vocabulary check comes after its rows.
pub vocabulary_then : {B C : Type 0} (v : List ℕ) (b : Outcome B) (c : Outcome C)
    → (vocabulary_check v then b then c) ≡ ((vocabulary_rows v then b) then c)
unfolding vocabulary_check
vocabulary_then v b c = at (vocabulary_rows v)
  where
    at : (r : Check) → ((r then accepted (count v)) then b then c) ≡ ((r then b) then c)
    at (accepted u) = refl
    at (refused n p) = refl
