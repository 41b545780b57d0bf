-- The rows of fields at a record, by the faults of its three fields.
--   rows_fit             where all three fields fit, the rows pass
--   rows_told            where each was asked, the smallest row of those that do not fit is the first that applies
--   record_passes        rows 3 to 7 at a record that fits
--   rows_passed          where the rows pass, all three fit
-- Assumes nothing.
use Prim.Native.Nat.{ℕ, min, ◌<◌, ◌≤◌}
use native.Mathlib.Omega.{arith}
use native.Mathlib.Decide.{ℕ_discrete, dec_lt}
use mathlib.Core.Path.{◌≡◌, refl, sym, ap, subst, ◌∙◌}
use mathlib.Core.Bool.{Bool, true, false, cond, not, ◌&&◌, ◌||◌, or-true, or-false}
use mathlib.Core.List.{List, [], ◌∷◌}
use mathlib.Core.Logic.{◌⊎◌, inl, inr}
use lib.Dec.{eqb}
use borrow.Author.Tests.{eq-eqb, ne_eqb, eqb-true}
use Rattle.records.specs.Finite.{occurs}
use Rattle.records.specs.Outcome.{Check, refused, pass, require, in_rows}
use Rattle.records.specs.declared.kinds.Sorts.{Sorts}
use Rattle.records.specs.Kinds.{sorts_of}
use Rattle.records.specs.Check.{sort_fits, row, clear, row_check, field_rows, kind_fits, rows_check, fields_check}
use Rattle.records.specs.Code.Fields.{field_fits, all_fit, no_fault, number_or_none, first_of, record_fits}
use Rattle.records.specs.Refusals.{number_of}
use Rattle.records.specs.declared.refusals.Row.{Row}
use Rattle.records.specs.declared.refusals.Row.TheVariants as row
use Rattle.std.proofs.Common.{Option, Some, None}
use Rattle.records.specs.declared.fields.Record.{Record}
use Rattle.records.specs.declared.kinds.Sort.{Sort}
use Rattle.records.specs.declared.kinds.Sort.TheVariants.{Spare, Term, Role, Label, Link}
use Rattle.records.proofs.Laws.Tests.{clash, both_left, both_right}
use Rattle.records.proofs.Laws.Checks.{require_passed, in_rows-same}
use Rattle.records.proofs.Laws.Lists.{All, occurs_nil, occurs_cons, all-occurs}
use Rattle.records.proofs.Theorems.Following.{Rising, rising_above}

-- x is one of these rows, or no fault.
abbrev Fault : List ℕ → ℕ → Type 0
Fault rows x = (x ≡ no_fault) ⊎ (occurs x rows ≡ true)

-- The smaller of two faults is one.
fault_smaller : (rows : List ℕ) (x y : ℕ) → Fault rows x → Fault rows y → Fault rows (min x y)
fault_smaller rows x y p q = at (dec_lt x y)
  where
    at : Dec (x < y) → Fault rows (min x y)
    at (yes h) = subst (Fault rows) (omega arith) p
    at (no h) = subst (Fault rows) (omega arith) q

-- Of rows that rise it is the first, or behind that and one of the others.
fault_cases : (n : ℕ) (rows : List ℕ) (x : ℕ) → n < no_fault → Rising n rows → Fault (n ∷ rows) x
    → (x ≡ n) ⊎ ((n < x) × Fault rows x)
fault_cases n rows x h rise (inl e) = inr (omega arith, inl e)
fault_cases n rows x h rise (inr o) = at (occurs_cons x n rows o)
  where
    at : (x ≡ n) ⊎ (occurs x rows ≡ true) → (x ≡ n) ⊎ ((n < x) × Fault rows x)
    at (inl e) = inl e
    at (inr p) = inr (rising_above n rows x rise p, inr p)

-- Three faults, and the rows that they are free of.
module _ (i a b c : ℕ) where
  abbrev first : ℕ
  first = min a (min b c)

  abbrev free : ℕ → Bool
  free n = not (eqb a n) && (not (eqb b n) && not (eqb c n))

  abbrev answer : Check
  answer = require (eqb first no_fault) first i

  caught : (n : ℕ) → first ≡ n → free n ≡ false
  caught n e = at (ℕ_discrete a n) (ℕ_discrete b n)
    where
      at : Dec (a ≡ n) → Dec (b ≡ n) → free n ≡ false
      at (yes p) q = rw (eq-eqb a n p)
      at (no p) (yes q) = rw (ne_eqb a n p, eq-eqb b n q)
      at (no p) (no q) = rw (ne_eqb a n p, ne_eqb b n q, eq-eqb c n (omega arith))

  cleared : (n : ℕ) → n < first → free n ≡ true
  cleared n h = rw (ne_eqb a n (λ e. omega arith), ne_eqb b n (λ e. omega arith), ne_eqb c n (λ e. omega arith))

  -- row by row: it is the smallest fault, or the rows after it decide
  rows_turn : (rows : List ℕ) (low : ℕ) → Rising low rows → All (λ n. n < no_fault) rows → Fault rows first
      → answer ≡ in_rows (λ n. require (free n) n i) rows
  rows_turn [] low rise small (inl e) = rw (eq-eqb first no_fault e)
  rows_turn [] low rise small (inr o) = absurd (occurs_nil first o)
  rows_turn (n ∷ rows) low rise small known =
      at (fault_cases n rows first small.0 rise.1 known) (rows_turn rows n rise.1 small.1)
    where
      at : (first ≡ n) ⊎ ((n < first) × Fault rows first)
          → (Fault rows first → answer ≡ in_rows (λ n. require (free n) n i) rows)
          → answer ≡ in_rows (λ n. require (free n) n i) (n ∷ rows)
      at (inl e) more = rw (caught n e, e, ne_eqb n no_fault (λ z. omega (arith, small.0)))
      at (inr l) more = rw (cleared n l.0) (more l.1)

-- A row against a field whose own row is m.
own_row : (m n : ℕ) (ok : Bool) → n < no_fault → (not (eqb m n) || ok) ≡ not (eqb (cond ok no_fault m) n)
own_row m n true h = or-true (not (eqb m n)) ∙ rw (ne_eqb no_fault n (λ e. omega arith))
own_row m n false h = or-false (not (eqb m n))

row_small : (sort : Sort) → row sort < no_fault
row_small Spare = omega arith
row_small Term = omega arith
row_small Role = omega arith
row_small Label = omega arith
row_small Link = omega arith

-- The rows of fields rise, and none of them is `no_fault`.
rows_rise : Rising 0 field_rows
rows_rise = (omega arith, (omega arith, (omega arith, (omega arith, tt))))

rows-small : All (λ n. n < no_fault) field_rows
rows-small = (omega arith, (omega arith, (omega arith, (omega arith, tt))))

-- The fault of a field whose own row is m: one of the rows of fields or not, as it is told.
module _ (m : ℕ) (ok : Bool) where
  fault_listed : (listed : Bool) → occurs m field_rows ≡ listed → Fault field_rows (cond (not listed || ok) no_fault m)
  fault_listed false e = inl refl
  fault_listed true e = at ok
    where
      at : (ok : Bool) → Fault field_rows (cond ok no_fault m)
      at true = inl refl
      at false = inr e

  clear-listed : (n : ℕ) → occurs n field_rows ≡ true → (listed : Bool) → occurs m field_rows ≡ listed
      → (not (eqb m n) || ok) ≡ not (eqb (cond (not listed || ok) no_fault m) n)
  clear-listed n o true e = own_row m n ok (all-occurs (λ n. n < no_fault) field_rows rows-small n o)
  clear-listed n o false e =
      let small = all-occurs (λ n. n < no_fault) field_rows rows-small n o in
      let other : m ≡ n → ⊥ = λ q. let both = sym e ∙ ap (λ (k : ℕ). occurs k field_rows) q ∙ o in clash (cc) in
      rw (ne_eqb m n other, ne_eqb no_fault n (λ q. omega (arith, small)))

module _ (v : List ℕ) (i : ℕ) where
  -- the row that refuses x, if one of the rows of fields does
  abbrev fault : Sort → ℕ → ℕ
  fault sort x = cond (field_fits v i sort x) no_fault (row sort)

  clear_fault : (n : ℕ) (sort : Sort) (x : ℕ) → occurs n field_rows ≡ true → clear v i n sort x ≡ not (eqb (fault sort x) n)
  unfolding field_fits
  clear_fault n sort x o = clear-listed (row sort) (sort_fits v i sort x) n o (occurs (row sort) field_rows) refl

  fault_known : (sort : Sort) (x : ℕ) → Fault field_rows (fault sort x)
  unfolding field_fits
  fault_known sort x = fault_listed (row sort) (sort_fits v i sort x) (occurs (row sort) field_rows) refl

module _ (v : List ℕ) (i : ℕ) (s : Sorts) (r : Record) where
  -- the faults of A, B and next
  abbrev in_a : ℕ
  in_a = fault v i s.a r.a

  abbrev in_b : ℕ
  in_b = fault v i s.b r.b

  abbrev in_next : ℕ
  in_next = fault v i s.next r.next

  first-known : Fault field_rows (first i in_a in_b in_next)
  first-known =
      fault_smaller field_rows in_a (min in_b in_next) (fault_known v i s.a r.a)
      (fault_smaller field_rows in_b in_next (fault_known v i s.b r.b) (fault_known v i s.next r.next))

  rows-first : answer i in_a in_b in_next ≡ rows_check v i s r
  rows-first =
      rows_turn i in_a in_b in_next field_rows 0 rows_rise rows-small first-known
      ∙ in_rows-same (λ n. require (free i in_a in_b in_next n) n i) (λ n. row_check v i n s r) field_rows
      (λ n o. rw (
        clear_fault v i n s.a r.a o,
        clear_fault v i n s.b r.b o,
        clear_fault v i n s.next r.next o,
      ))

-- The answer for a row that refuses, or none.
abbrev verdict : ℕ → Option Row → Check
verdict i None = pass
verdict i (Some row) = refused (number_of row) i

number_small : (x : Row) → number_of x < no_fault
number_small row.Length = omega arith
number_small row.Header = omega arith
number_small row.Kind = omega arith
number_small row.Unused = omega arith
number_small row.Operand = omega arith
number_small row.Role = omega arith
number_small row.Label = omega arith
number_small row.Link = omega arith
number_small row.RecordNumber = omega arith
number_small row.QueryTerm = omega arith
number_small row.AtomLimit = omega arith
number_small row.SurvivorRoom = omega arith
number_small row.ScriptLength = omega arith
number_small row.ScriptHeader = omega arith
number_small row.EntryKind = omega arith
number_small row.EntryUnused = omega arith
number_small row.EntryTerm = omega arith
number_small row.Step = omega arith
number_small row.StepLink = omega arith
number_small row.Start = omega arith
number_small row.Connection = omega arith
number_small row.Reduction = omega arith
number_small row.FrameLimit = omega arith
number_small row.FrameLeft = omega arith
number_small row.AllClosed = omega arith
number_small row.TaxonomyRoom = omega arith
number_small row.RecordRoom = omega arith
number_small row.AtomsHeld = omega arith

verdict_number : (i : ℕ) (o : Option Row)
    → verdict i o ≡ require (eqb (number_or_none o) no_fault) (number_or_none o) i
verdict_number i None = refl
verdict_number i (Some x) = rw (ne_eqb (number_of x) no_fault (λ e. omega (arith, number_small x, e)))

-- Where all fit, or each was asked and the smallest row is of the first that applies.
module _ (v : List ℕ) (i : ℕ) (s : Sorts) (r : Record) where
  abbrev fit_a : Bool
  fit_a = field_fits v i s.a r.a

  abbrev fit_b : Bool
  fit_b = field_fits v i s.b r.b

  abbrev fit_next : Bool
  fit_next = field_fits v i s.next r.next

  pub rows_fit : (o : Bool) → o ≡ all_fit v i s r → o ≡ true → pass ≡ rows_check v i s r
  rows_fit o e t = at fit_a fit_b fit_next (sym e ∙ t) ∙ rows-first v i s r
    where
      at : (a b c : Bool) → (a && (b && c)) ≡ true → pass ≡ require (eqb (first_of s a b c) no_fault) (first_of s a b c) i
      at true true true e = refl
      at true true false e = absurd (clash (cc))
      at true false c e = absurd (clash (cc))
      at false b c e = absurd (clash (cc))

  -- or each was asked
  pub rows_told : (o : Option Row) (a b c : Bool) → number_or_none o ≡ first_of s a b c
      → a ≡ fit_a → b ≡ fit_b → c ≡ fit_next → verdict i o ≡ rows_check v i s r
  rows_told o a b c q e f g = verdict_number i o ∙ rw (q, e, f, g) (rows-first v i s r)

-- Rows 3 to 7, where all fit.
pub record_passes : (v : List ℕ) (i : ℕ) (r : Record) → record_fits v i r ≡ true → pass ≡ fields_check v i r
record_passes v i r e =
    let rest = all_fit v i (sorts_of r.kind) r in
    rw (both_left (kind_fits r) rest e) (rows_fit v i (sorts_of r.kind) r rest refl (both_right (kind_fits r) rest e))

-- What passed rows tell.
module _ (v : List ℕ) (i : ℕ) (s : Sorts) (r : Record) (e : rows_check v i s r ≡ pass) where
  none : min (in_a v i s r) (min (in_b v i s r) (in_next v i s r)) ≡ no_fault
  none =
      eqb-true _ no_fault
      (require_passed (eqb (first i (in_a v i s r) (in_b v i s r) (in_next v i s r)) no_fault) _ i (rows-first v i s r ∙ e))

  unfaulted : (sort : Sort) (x : ℕ) → no_fault ≤ fault v i sort x → field_fits v i sort x ≡ true
  unfaulted sort x h = at (field_fits v i sort x) h
    where
      at : (ok : Bool) → no_fault ≤ cond ok no_fault (row sort) → ok ≡ true
      at true q = refl
      at false q = absurd (omega (arith, row_small sort))

  pub rows_passed : (field_fits v i s.a r.a ≡ true) × (field_fits v i s.b r.b ≡ true) ×
      (field_fits v i s.next r.next ≡ true)
  rows_passed = (
    unfaulted s.a r.a (omega (arith, none)),
    unfaulted s.b r.b (omega (arith, none)),
    unfaulted s.next r.next (omega (arith, none)),
  )
