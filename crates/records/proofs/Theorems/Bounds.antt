-- What an answer tells: a caller can index the vocabulary by it.
--   vocabulary-count   the vocabulary check's count
--   record_within      the record call's offset leaves room for a record
--   held-atoms         an edition 2 header holds k
--   held-bound         what a header holds is no more than the records there may be
-- Assumes nothing.
use Prim.Native.Nat.{ℕ, ◌+◌, ◌*◌, ◌≤◌, ◌<◌}
use native.Mathlib.Omega.{arith}
use native.Mathlib.Decide.{ℕ_discrete}
use mathlib.Core.Path.{◌≡◌}
use mathlib.Core.Bool.{true, ◌&&◌, ◌||◌}
use mathlib.Core.List.{List}
use lib.ListN.{length}
use lib.Dec.{ltb, leb, eqb}
use borrow.Author.Tests.{ltb-true, eqb-true, eq-eqb, ne_eqb}
use Rattle.records.specs.Outcome.{accepted, pass, ◌then◌, require}
use Rattle.records.specs.Format.{record_size, record_limit, role_limit, record_at, count, edition, atoms_held}
use Rattle.records.specs.Atoms.{atoms}
use Rattle.records.specs.Check.{length_check, header_fits, vocabulary_rows, vocabulary_check}
use Rattle.records.specs.Call.{record_call}
use Rattle.records.proofs.Laws.Checks.{require_passed, then_passed}
use Rattle.records.proofs.Laws.Tests.{both_right, either_rest, implies_rest}
use Rattle.records.proofs.Theorems.Accepted.{length_passed, well_formed_rows, RowsAccepted, rows-accepted}
use Rattle.records.proofs.Theorems.Ranks.{rank-bound}

pub vocabulary-count : (v : List ℕ) (n : ℕ) → vocabulary_check v ≡ accepted n → n ≡ count v
unfolding vocabulary_check
vocabulary-count v n e =
    let d : accepted (count v) ≡ accepted n = (then_passed (vocabulary_rows v) _ n e).1 in
    cc

pub record_within : (v : List ℕ) (n at : ℕ) → record_call v n ≡ accepted at → at + record_size ≤ length v
unfolding record_call
record_within v n at e =
    let named = require (ltb n (count v)) 9 n in
    let after = (then_passed (length_check v) (named then accepted (record_size * n)) at e).1 in
    let known = then_passed named (accepted (record_size * n)) at after in
    let below : n < count v = ltb-true _ _ (require_passed (ltb n (count v)) 9 n known.0) in
    let same : record_size * n ≡ at = cc in
    omega arith

module _ (v : List ℕ) (accepts : vocabulary_rows v ≡ pass) where
  abbrev rows : RowsAccepted v
  rows = rows-accepted v accepts

  pub held-atoms : edition v ≡ 2 → atoms_held v ≡ atoms v
  held-atoms e =
      eqb-true (atoms_held v) (atoms v)
      (implies_rest (eqb (edition v) 2) (eqb (atoms_held v) (atoms v)) rows.held (eq-eqb (edition v) 2 e))

  pub held-bound : atoms_held v ≤ record_limit
  held-bound = at (ℕ_discrete (edition v) 2)
    where
      at : Dec (edition v ≡ 2) → atoms_held v ≤ record_limit
      at (yes e) =
          omega (
            arith,
            held-atoms e,
            rank-bound v (count v),
            (length_passed v (well_formed_rows v rows.well).length).most,
          )
      at (no n) =
          let r = record_at v 0 in
          let one = eqb r.second 1 && eqb r.next 0 in
          let kept = leb r.b role_limit && (eqb r.second 2 || one) in
          let fit : header_fits r ≡ true = require_passed (header_fits r) 2 0 (well_formed_rows v rows.well).header in
          let edition = both_right (leb r.b role_limit) (eqb r.second 2 || one) (both_right (eqb r.kind 16) kept fit) in
          let first = either_rest (eqb r.second 2) one edition (ne_eqb r.second 2 n) in
          let none : r.next ≡ 0 = eqb-true r.next 0 (both_right (eqb r.second 1) (eqb r.next 0) first) in
          omega (arith, none)
