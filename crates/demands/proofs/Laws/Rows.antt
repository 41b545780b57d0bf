-- A list of rows as a check, and what follows from that.
--   first                                    the refusal of the first row that applies
--   Tries, tries_append, .., tries_in_turn   rows are the checks that they are made of
--   none_passed, row_passed, refuses_first   no row applies; a row does not; the first that applies
--   follows                                  a call that tries its rows and then has a value follows them
-- Assumes nothing.
use Prim.Native.Nat.{ℕ, zero, suc}
use mathlib.Core.Path.{◌≡◌, refl, sym, ap, ◌∙◌}
use mathlib.Core.Bool.{Bool, true, false, not}
use mathlib.Core.List.{List, [], ◌∷◌, ◌++◌, map}
use Rattle.records.specs.Outcome.{Outcome, Check, accepted, refused, pass, ◌then◌, require, in_rows, in_turn}
use Rattle.records.proofs.Laws.Tests.{clash}
use Rattle.records.proofs.Laws.Checks.{then_assoc, then_stops}
use Rattle.demands.specs.Table.{Row, row, rows_in_turn, NoneApplies, Refuses, Follows}

abbrev pub first : List Row → Check
first [] = pass
first (r ∷ rows) = require (not r.applies) r.number r.place then first rows

first_then : (xs ys : List Row) → first (xs ++ ys) ≡ (first xs then first ys)
first_then [] ys = refl
first_then (r ∷ xs) ys =
    let own = require (not r.applies) r.number r.place in
    ap (λ (c : Check). own then c) (first_then xs ys) ∙ sym (then_assoc own (first xs) (first ys))

-- The rows are the check.
pub record Tries (rows : List Row) (check : Check) : Type 0 where
  pub same : first rows ≡ check

-- Rows and more rows; a row whose condition is that something is not so, or that it is; the last row; rows by their numbers; rows
-- in turn.
pub tries_append : {xs ys : List Row} {c d : Check} → Tries xs c → Tries ys d → Tries (xs ++ ys) (c then d)
tries_append {xs} {ys} e f = record { same = first_then xs ys ∙ rw (e.same, f.same) }

pub tries_row : (b : Bool) (n p : ℕ) {rows : List Row} {c : Check} → Tries rows c
    → Tries (row n p (not b) ∷ rows) (require b n p then c)
tries_row true n p e = record { same = e.same }
tries_row false n p e = record { same = refl }

pub tries_plain : (b : Bool) (n p : ℕ) {rows : List Row} {c : Check} → Tries rows c
    → Tries (row n p b ∷ rows) (require (not b) n p then c)
tries_plain b n p e = record { same = rw e.same }

pub tries_last : (b : Bool) (n p : ℕ) → Tries (row n p (not b) ∷ []) (require b n p)
tries_last true n p = record { same = refl }
tries_last false n p = record { same = refl }

pub tries_rows : (fits : ℕ → Bool) (p : ℕ) (rows : List ℕ)
    → Tries (map (λ n. row n p (not (fits n))) rows) (in_rows (λ n. require (fits n) n p) rows)
tries_rows fits p [] = record { same = refl }
tries_rows fits p (n ∷ rows) = tries_row (fits n) n p (tries_rows fits p rows)

pub tries_in_turn : (rows : ℕ → List Row) (check : ℕ → Check) (n i : ℕ) → ((k : ℕ) → Tries (rows k) (check k))
    → Tries (rows_in_turn rows i n) (in_turn check i n)
unfolding rows_in_turn in_turn
tries_in_turn rows check zero i each = record { same = refl }
tries_in_turn rows check (suc n) i each = tries_append (each i) (tries_in_turn rows check n (suc i) each)

pub none_passed : (rows : List Row) → NoneApplies rows → first rows ≡ pass
none_passed [] h = refl
none_passed (r ∷ rows) h = rw h.0 (none_passed rows h.1)

passed_none : (rows : List Row) → first rows ≡ pass → NoneApplies rows
passed_none [] e = tt
passed_none (r ∷ rows) e = at r.applies refl e (passed_none rows)
  where
    at : (b : Bool) → r.applies ≡ b → (require (not b) r.number r.place then first rows) ≡ pass
        → (first rows ≡ pass → NoneApplies rows) → (r.applies ≡ false) × NoneApplies rows
    at true q h more = absurd (clash (cc))
    at false q h more = (q, more h)

-- a row that does not apply, where its condition is that something is not so
pub row_passed : (b : Bool) (n p : ℕ) → not b ≡ false → require b n p ≡ pass
row_passed true n p e = refl
row_passed false n p e = absurd (clash (cc))

pub refuses_first : (rows : List Row) (n p : ℕ) → Refuses rows n p → first rows ≡ refused n p
refuses_first rows n p r =
    ap first r.splits ∙ first_then r.before (row n p true ∷ r.after) ∙ rw (none_passed r.before r.clear)

-- one row more, which does not apply
refuses_later : (r : Row) (rows : List Row) (n p : ℕ) → r.applies ≡ false → Refuses rows n p → Refuses (r ∷ rows) n p
refuses_later r rows n p q h =
    record {
      before = r ∷ h.before;
      after = h.after;
      splits = ap (λ (l : List Row). r ∷ l) h.splits;
      clear = (q, h.clear);
    }

first_refuses : (rows : List Row) (n p : ℕ) → first rows ≡ refused n p → Refuses rows n p
first_refuses [] n p e = absurd (clash (cc))
first_refuses (r ∷ rows) n p e = at r.applies refl e (first_refuses rows n p)
  where
    at : (b : Bool) → r.applies ≡ b → (require (not b) r.number r.place then first rows) ≡ refused n p
        → (first rows ≡ refused n p → Refuses rows n p) → Refuses (r ∷ rows) n p
    at false q h more = refuses_later r rows n p q (more h)
    at true q h more =
        let same : ◌≡◌ {A = Check} (refused r.number r.place) (refused n p) = h in
        let number : r.number ≡ n = cc in
        let place : r.place ≡ p = cc in
        record { before = []; after = rows; splits = rw (← number, ← place, ← q); clear = tt }

-- The answer of a call that tries its rows and then has a value.
pub follows : {A : Type 0} {rows : List Row} {check : Check} {value : A} {answer : Outcome A} → Tries rows check
    → answer ≡ (check then accepted value) → Follows rows value answer
follows {rows} {value} {answer} tries h =
    let e : answer ≡ (first rows then accepted value) = rw tries.same h in
    record {
      refused_only = λ n p h. first_refuses rows n p (then_stops (first rows) value n p (sym e ∙ h));
      refused_always = λ n p h. e ∙ rw (refuses_first rows n p h);
      accepted_only = λ x h. let w = passed x (first rows) (sym e ∙ h) in (passed_none rows w.0, w.1);
      accepted_always = λ h. e ∙ rw (none_passed rows h);
    }
  where
    passed : (x : _) (c : Check) → (c then accepted value) ≡ accepted x → (c ≡ pass) × (x ≡ value)
    passed x (accepted u) h =
        let same : accepted value ≡ accepted x = h in
        (refl, cc)
    passed x (refused k l) h = absurd (clash (cc))
