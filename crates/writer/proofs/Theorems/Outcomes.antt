-- What an addition comes to: the code's checks, of which the last is of the new record alone, and then the grown bytes.
--   reader-own, ..                   the reader's check of the grown bytes is that of the new record
--   addition-checks, adding-checks   an addition is the code's checks, and then the grown bytes
--   length_then, refused-length      the new length, after checks; a refusal
--   adding-rows, adding-reader       the new length, after the rows of an addition, and after the reader's
--   Fit, checks-fit, fit_well, ..    what passed checks tell
--   adding-refused, adding_fine      the outcome, by what the checks answered
--   Succeeded, adding_succeeded      an addition that succeeded
--   Made, making_succeeded           an empty vocabulary that was made
-- Assumes nothing.
use Prim.Native.Nat.{ℕ, suc, ◌+◌, ◌*◌, ◌≤◌, ◌<◌}
use native.Mathlib.Omega.{arith}
use mathlib.Core.Path.{◌≡◌, refl, sym, ap, ◌∙◌}
use mathlib.Core.Bool.{Bool, true, false, ◌&&◌}
use mathlib.Core.List.{List}
use lib.ListN.{length, take}
use lib.Seq.{length-take-le}
use lib.Dec.{ltb, leb}
use borrow.Author.Tests.{ltb-true, leb-true, le-leb}
use Rattle.records.specs.Outcome.{Outcome, Check, accepted, refused, pass, ◌then◌, require}
use Rattle.records.specs.Format.{record_size, record_limit, role_limit, record_bytes, count}
use Rattle.records.specs.Check.{fields_check, record_check, vocabulary_rows, vocabulary_check, IsWellFormed}
use Rattle.records.proofs.Laws.Tests.{clash, both_left, both_right}
use Rattle.records.proofs.Laws.Checks.{refusal_same, then_assoc, then_same, require_passed, then_passed}
use Rattle.records.proofs.Theorems.Accepted.{RowsAccepted, rows-accepted, rows-vocabulary, vocabulary_then}
use Rattle.records.proofs.Theorems.Growth.{Grows, grows-rows, grows_check, grown_record}
use Rattle.writer.specs.Additions.{Addition, term, statement, new_record, grown}
use Rattle.writer.specs.Calls.{empty_header, making, room_check, is_addable, addition, adding, new_length}
use Rattle.writer.specs.Code.Checks.{new_record_check, addition_check}
use Rattle.writer.proofs.Theorems.Grown.{grown-length, grown_grows}

-- four checks, taken together
regroup : {B : Type 0} (a b c d : Check) (o : Outcome B) → (a then b then c then d then o) ≡ ((a then b then c then d) then o)
regroup (accepted u) (accepted w) (accepted z) d o = refl
regroup (accepted u) (accepted w) (refused n p) d o = refl
regroup (accepted u) (refused n p) c d o = refl
regroup (refused n p) b c d o = refl

-- nothing comes after the new record
pub new-ends : (x : Addition) → (new_record x).next ≡ 0
new-ends (term kind a b) = refl
new-ends (statement a b) = refl

-- the new length, after checks
pub length_then : (c : Check) (w : List ℕ) → new_length (c then accepted w) ≡ (c then accepted (length w))
length_then (accepted u) w = refl
length_then (refused n p) w = refl

-- a refusal is the outcome's own
pub refused-length : (o : Outcome (List ℕ)) (n p : ℕ) → new_length o ≡ refused n p → o ≡ refused n p
refused-length (accepted w) n p e = absurd (clash (cc))
refused-length (refused m q) n p e = let same = refusal_same m q n p e in rw (same.0, same.1)

module _ (v : List ℕ) (size : ℕ) (x : Addition) where
  abbrev roomy : Bool
  roomy = ltb (count v) record_limit && leb (length v + record_size) size

  abbrev own : Check
  own = fields_check v (count v) (new_record x)

  abbrev rest : Outcome (List ℕ)
  rest = require (is_addable x) 3 (count v) then vocabulary_check (grown v x) then accepted (grown v x)

  -- What is checked of a record where all rows before its own passed.
  module _ (accepts : vocabulary_rows v ≡ pass) (fits : room_check v size ≡ pass)
      (is : require (is_addable x) 3 (count v) ≡ pass) where
    abbrev facts : RowsAccepted v
    facts = rows-accepted v accepts

    few : count v < record_limit
    few =
        ltb-true (count v) record_limit
        (both_left (ltb (count v) record_limit) (leb (length v + record_size) size) (require_passed roomy 27 (count v) fits))

    grows : Grows v (grown v x) (new_record x)
    grows = grown_grows v (rows-vocabulary v accepts) x (require_passed (is_addable x) 3 (count v) is)

    -- the reader's check of the bytes with the record is that of the record
    pub reader-own : {B : Type 0} (o : Outcome B) → (vocabulary_check (grown v x) then o) ≡ (own then o)
    reader-own o =
        rw (grows_check v (grown v x) (new_record x) facts.well few grows (new-ends x) facts.held)
        (then_assoc own (accepted (suc (count v))) o)

    pub rows-own : vocabulary_rows (grown v x) ≡ own
    rows-own = grows-rows v (grown v x) (new_record x) facts.well few grows (new-ends x) facts.held

    pub record_own : record_check (grown v x) (count v) ≡ own
    record_own = grown_record v (grown v x) (new_record x) facts.well few grows

  pub addition-checks : addition v size x ≡ (new_record_check v size (is_addable x) (new_record x) then accepted (grown v x))
  unfolding addition new_record_check
  addition-checks =
      let is = require (is_addable x) 3 (count v) in
      let done = accepted (grown v x) in
      vocabulary_then v (room_check v size) rest
      ∙ then_assoc (vocabulary_rows v) (room_check v size) rest
      ∙ then_same (vocabulary_rows v) (room_check v size then rest) (room_check v size then is then own then done)
      (λ accepts. then_same (room_check v size) rest (is then own then done)
      (λ fits. then_same is (vocabulary_check (grown v x) then done) (own then done)
      (λ adds. reader-own accepts fits adds done)))
      ∙ regroup (vocabulary_rows v) (room_check v size) is own done

-- What passed checks tell of the buffer, and of the addition.
pub record Fit (buffer : List ℕ) (used : ℕ) (x : Addition) : Type 0 where
  pub within : used ≤ length buffer
  pub accepts : vocabulary_rows (take used buffer) ≡ pass
  pub few : count (take used buffer) < record_limit
  pub room : used + record_size ≤ length buffer
  pub addable : is_addable x ≡ true
  pub own : fields_check (take used buffer) (count (take used buffer)) (new_record x) ≡ pass

module _ (buffer : List ℕ) (used : ℕ) (x : Addition) where
  abbrev in_use : List ℕ
  in_use = take used buffer

  pub fit_well : Fit buffer used x → IsWellFormed in_use
  fit_well fit = (rows-accepted in_use fit.accepts).well

  pub fit_small : Fit buffer used x → used ≤ record_size * record_limit
  fit_small fit =
      let good = rows-vocabulary in_use fit.accepts in
      omega (arith, good.sized.most, length-take-le used buffer fit.within)

  abbrev checks : Check
  checks = addition_check buffer used (is_addable x) (new_record x)

  pub adding-checks : adding buffer used x ≡ (checks then accepted (grown in_use x))
  unfolding adding addition_check
  adding-checks =
      ap (λ (o : Outcome (List ℕ)). require (leb used (length buffer)) 1 0 then o) (addition-checks in_use (length buffer) x)
      ∙ sym (then_assoc (require (leb used (length buffer)) 1 0)
      (new_record_check in_use (length buffer) (is_addable x) (new_record x)) (accepted (grown in_use x)))

  pub checks-fit : checks ≡ pass → Fit buffer used x
  unfolding addition_check new_record_check
  checks-fit e =
      let new = require (is_addable x) 3 (count in_use) then fields_check in_use (count in_use) (new_record x) in
      let a = then_passed (require (leb used (length buffer)) 1 0)
      (new_record_check in_use (length buffer) (is_addable x) (new_record x)) tt e in
      let b = then_passed (vocabulary_rows in_use) (room_check in_use (length buffer) then new) tt a.1 in
      let c = then_passed (room_check in_use (length buffer)) new tt b.1 in
      let d = then_passed (require (is_addable x) 3 (count in_use)) (fields_check in_use (count in_use) (new_record x)) tt c.1 in
      let within : used ≤ length buffer = leb-true _ _ (require_passed (leb used (length buffer)) 1 0 a.0) in
      let room = require_passed (roomy in_use (length buffer) x) 27 (count in_use) c.0 in
      let fits = leb-true (length in_use + record_size) (length buffer)
      (both_right (ltb (count in_use) record_limit) (leb (length in_use + record_size) (length buffer)) room) in
      record {
        within = within;
        accepts = b.0;
        few = ltb-true _ _ (both_left (ltb (count in_use) record_limit) (leb (length in_use + record_size) (length buffer)) room);
        room = omega (arith, length-take-le used buffer within, fits);
        addable = require_passed (is_addable x) 3 (count in_use) d.0;
        own = d.1;
      }

  length-fit : Fit buffer used x → length (grown in_use x) ≡ used + record_size
  length-fit fit =
      grown-length in_use (rows-vocabulary in_use fit.accepts) x
      ∙ ap (λ (n : ℕ). n + record_size) (length-take-le used buffer fit.within)

  -- The rows of an addition, the last of them those of the reader at the new record.
  abbrev pub rows : Check
  rows =
      require (leb used (length buffer)) 1 0
      then vocabulary_rows in_use
      then room_check in_use (length buffer)
      then require (is_addable x) 3 (count in_use)
      then record_check (grown in_use x) (count in_use)

  checks-rows : checks ≡ rows
  unfolding addition_check new_record_check
  checks-rows =
      let is = require (is_addable x) 3 (count in_use) in
      let room = room_check in_use (length buffer) in
      let new = fields_check in_use (count in_use) (new_record x) in
      let read = record_check (grown in_use x) (count in_use) in
      ap (λ (o : Check). require (leb used (length buffer)) 1 0 then o)
      (then_same (vocabulary_rows in_use) (room then is then new) (room then is then read)
      (λ accepts. then_same room (is then new) (is then read)
      (λ fits. then_same is new read (λ adds. sym (record_own in_use (length buffer) x accepts fits adds)))))

  pub adding-rows : new_length (adding buffer used x) ≡ (rows then accepted (used + record_size))
  adding-rows =
      ap new_length (adding-checks ∙ ap (λ (c : Check). c then accepted (grown in_use x)) checks-rows)
      ∙ length_then rows (grown in_use x)
      ∙ then_same rows (accepted (length (grown in_use x))) (accepted (used + record_size))
      (λ e. ap (λ (n : ℕ). accepted n) (length-fit (checks-fit (checks-rows ∙ e))))

  -- Where the bytes in use pass, there is room and the record may be added, the reader's rows of the grown bytes decide.
  pub adding-reader : used ≤ length buffer → vocabulary_rows in_use ≡ pass → room_check in_use (length buffer) ≡ pass
      → is_addable x ≡ true
      → new_length (adding buffer used x) ≡ (vocabulary_rows (grown in_use x) then accepted (used + record_size))
  adding-reader within accepts fits is =
      let adds : require (is_addable x) 3 (count in_use) ≡ pass = rw is in
      adding-rows
      ∙ rw (
        le-leb used (length buffer) within,
        accepts,
        fits,
        adds,
        record_own in_use (length buffer) x accepts fits adds,
        rows-own in_use (length buffer) x accepts fits adds,
      )

  pub adding-refused : (n p : ℕ) → refused n p ≡ checks → adding buffer used x ≡ refused n p
  adding-refused n p e = adding-checks ∙ rw (← e)

  pub adding_fine : pass ≡ checks → adding buffer used x ≡ accepted (grown in_use x)
  adding_fine e = adding-checks ∙ rw (← e)

  -- An addition that succeeded.
  pub record Succeeded (n : ℕ) : Type 0 where
    pub fit : Fit buffer used x
    pub outcome : adding buffer used x ≡ accepted (grown in_use x)
    pub long : n ≡ length (grown in_use x)

  pub adding_succeeded : (n : ℕ) → new_length (adding buffer used x) ≡ accepted n → Succeeded n
  adding_succeeded n e = at checks refl (sym (ap new_length adding-checks) ∙ e)
    where
      at : (c : Check) → checks ≡ c → new_length (c then accepted (grown in_use x)) ≡ accepted n → Succeeded n
      at (accepted u) q h =
          let same : accepted (length (grown in_use x)) ≡ accepted n = h in
          record { fit = checks-fit q; outcome = adding-checks ∙ rw q; long = cc }
      at (refused m p) q h = absurd (clash (cc))

-- An empty vocabulary that was made.
pub record Made (size roles n : ℕ) : Type 0 where
  pub few : roles ≤ role_limit
  pub outcome : making size roles ≡ accepted (record_bytes (empty_header roles))
  pub long : n ≡ length (record_bytes (empty_header roles))

pub making_succeeded : (size roles n : ℕ) → new_length (making size roles) ≡ accepted n → Made size roles n
unfolding making
making_succeeded size roles n e = at (leb record_size size) refl (leb roles role_limit) refl e
  where
    at : (a : Bool) → leb record_size size ≡ a → (b : Bool) → leb roles role_limit ≡ b
        → new_length (require a 27 0 then require b 2 0 then accepted (record_bytes (empty_header roles))) ≡ accepted n
        → Made size roles n
    at true p true q h =
        let same : accepted record_size ≡ accepted n = h in
        let long : record_size ≡ n = cc in
        record { few = leb-true roles role_limit q; outcome = rw (p, q); long = sym long }
    at true p false q h = absurd (clash (cc))
    at false p b q h = absurd (clash (cc))
