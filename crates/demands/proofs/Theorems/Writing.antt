-- The promise of the vocabulary writer, proved: specs/Promises.antt states it.
--   only-new              what an addition that succeeded changed
--   as_reader             it is decided as the reader would
--   State, state_turn     what holds of a buffer while additions succeed
--   writes_vocabularies   slip 4
--   addition-accepted     the bytes in use after an addition that succeeded
-- Assumes nothing.
use Prim.Native.Nat.{ℕ, suc, ◌+◌, ◌-◌, ◌≤◌, ◌<◌}
use native.Mathlib.Omega.{arith}
use mathlib.Core.Path.{◌≡◌, refl, sym, ap, subst, ◌∙◌}
use mathlib.Core.Bool.{true}
use mathlib.Core.List.{List, [], ◌∷◌, ◌++◌, append_assoc, append-nil}
use mathlib.Core.Logic.{◌⊎◌, inl, inr}
use lib.ListN.{length, get_or, take, drop, length-append, length-drop, get_or-append}
use lib.Seq.{length-take-le, take_at, drop-append-le, get_or-take, get_or-drop, get_or-append-add}
use borrow.Author.Tests.{lt-ltb, le-leb}
use Rattle.records.specs.Outcome.{accepted, pass, require}
use Rattle.records.specs.Format.{record_size, record_limit, word_at, record_bytes, record_at, count, role_count, edition}
use Rattle.records.specs.Atoms.{atoms}
use Rattle.records.specs.Check.{fields_check, vocabulary_rows, vocabulary_check}
use Rattle.records.specs.declared.fields.Record.{Record}
use Rattle.records.proofs.Laws.Parts.{record_bytes_lem}
use Rattle.records.proofs.Laws.Sets.{length-table}
use Rattle.records.proofs.Theorems.Growth.{fields_at}
use Rattle.records.proofs.Theorems.Accepted.{AcceptedFacts, rows-vocabulary, accepted-rows}
use Rattle.records.proofs.Theorems.Bounds.{held-atoms}
use Rattle.writer.specs.Additions.{Addition, term, statement, new_record, link_place, grown, contents, stated}
use Rattle.writer.specs.Additions.{shown, statements_of}
use Rattle.writer.specs.Calls.{empty_header, making, room_check, is_addable, adding, new_length, buffer_after}
use Rattle.writer.proofs.Theorems.Grown as bytes
use Rattle.writer.proofs.Theorems.Outcomes.{Succeeded, adding_succeeded, adding-reader, rows-own, making_succeeded}
use Rattle.writer.proofs.Theorems.Reading as reading
use Rattle.demands.specs.Table.{vocabulary_table, AcceptedVocabulary, Refuses}
use Rattle.demands.specs.Promises.{Reached, OffLink, OffCount, AtChainEnd, OnlyNew, Roomy, AsReader, Succeed, Shows}
use Rattle.demands.specs.Promises.{WritesVocabularies}
use Rattle.demands.proofs.Laws.Rows.{follows, refuses_first}
use Rattle.demands.proofs.Theorems.Tables.{tries_vocabulary, vocabulary_follows}

-- An addition that succeeded.
module _ (buffer : List ℕ) (used : ℕ) (x : Addition) (n : ℕ) (done : Succeeded buffer used x n) where
  abbrev v : List ℕ
  v = take used buffer

  abbrev w : List ℕ
  w = grown v x

  abbrev after : List ℕ
  after = w ++ drop (length w) buffer

  abbrev good : AcceptedFacts v
  good = rows-vocabulary v done.fit.accepts

  in_use_lem : length v ≡ used
  in_use_lem = length-take-le used buffer done.fit.within

  pub long : length w ≡ used + record_size
  long = bytes.grown-length v good x ∙ ap (λ (m : ℕ). m + record_size) in_use_lem

  -- the bytes of the vocabulary, and those behind it
  front : (i : ℕ) → i < used + record_size → get_or after i 0 ≡ get_or w i 0
  front i h = get_or-append w (drop (length w) buffer) 0 i (omega (arith, long))

  behind : (i : ℕ) → used + record_size ≤ i → get_or after i 0 ≡ get_or buffer i 0
  behind i h =
      let k = i - length w in
      let here : i ≡ length w + k = omega (arith, long) in
      ap (λ (j : ℕ). get_or after j 0) here
      ∙ get_or-append-add w (drop (length w) buffer) k 0
      ∙ get_or-drop (length w) buffer k 0
      ∙ ap (λ (j : ℕ). get_or buffer j 0) (sym here)

  off : (y : Addition) (i : ℕ) → OffLink v y i → bytes.Elsewhere v good y i
  off (term kind a b) i h = tt
  off (statement a b) i (inl h) = (λ e. omega arith, λ e. omega arith)
  off (statement a b) i (inr h) = (λ e. omega arith, λ e. omega arith)

  kept : (i : ℕ) → (i < used) ⊎ (used + record_size ≤ i) → OffLink v x i → OffCount v i → get_or after i 0 ≡ get_or buffer i 0
  kept i (inl h) o k =
      front i (omega arith)
      ∙ bytes.grown-kept v good x i (omega (arith, in_use_lem)) (off x i o) k
      ∙ get_or-take used buffer i 0 h
  kept i (inr h) o k = behind i h

  reached : (y : Addition) → y ≡ x → Reached v y after
  reached (term kind a b) e = tt
  reached (statement a b) e =
      let within = bytes.link_within v good in
      let here = link_place v in
      rw (front here (omega (arith, within, in_use_lem)), front (here + 1) (omega (arith, within, in_use_lem)), ← e)
      (bytes.grown_link v good a b)

  new : take record_size (drop used after) ≡ record_bytes (new_record x)
  new =
      let rest = drop (length w) buffer in
      let record-there = ap (λ (m : ℕ). drop m w) (sym in_use_lem) ∙ bytes.grown_behind v good x in
      ap (take record_size) (drop-append-le used w rest (omega (arith, long)) ∙ ap (λ (l : List ℕ). l ++ rest) record-there)

  chained : (y : Addition) → is_addable y ≡ true → fields_check v (count v) (new_record y) ≡ pass → AtChainEnd v y (grown v y)
  chained (term kind a b) is own = reading.term-chain v done.fit.accepts done.fit.few kind a b is own
  chained (statement a b) is own = reading.statement-chain v done.fit.accepts done.fit.few a b own

  pub grown-accepted : vocabulary_rows w ≡ pass
  grown-accepted =
      let fit = done.fit in
      reading.grown-accepts v x fit.accepts fit.few fit.addable fit.own

  same_edition : edition w ≡ edition v
  same_edition =
      let fit = done.fit in
      reading.grown-edition v x fit.accepts fit.few fit.addable fit.own

  -- the header's next, by its bytes
  true_count : edition v ≡ 2 → word_at after 6 ≡ atoms w
  true_count two =
      rw (front 6 (omega arith), front 7 (omega arith))
      (sym (ap (λ (r : Record). r.next) (record_bytes_lem w 0)) ∙ held-atoms w grown-accepted (same_edition ∙ two))

  pub only-new : OnlyNew buffer used x after
  only-new =
      let now = take_at w (drop (length w) buffer) (used + record_size) long in
      record {
        new = new;
        reached = reached x refl;
        kept = kept;
        same_edition = rw now same_edition;
        true_count = λ two. rw now (true_count two);
        size = length-append w (drop (length w) buffer)
            ∙ omega (arith, long, length-drop (length w) buffer, done.fit.room);
        grows = now;
        chained = rw now (chained x done.fit.addable done.fit.own);
      }

-- Where there is room, the reader's rows decide.
module _ (buffer : List ℕ) (used : ℕ) (x : Addition) (room : Roomy buffer used) (is : is_addable x ≡ true) where
  abbrev in_use : List ℕ
  in_use = take used buffer

  passed : vocabulary_rows in_use ≡ pass
  passed = accepted-rows in_use (count in_use) ((vocabulary_follows in_use).accepted_always room.accepts)

  fits : room_check in_use (length buffer) ≡ pass
  fits =
      rw (
        lt-ltb (count in_use) record_limit room.few,
        le-leb (length in_use + record_size) (length buffer)
            (omega (arith, room.free, length-take-le used buffer room.within)),
      )

  own : (n p : ℕ) → Refuses (vocabulary_table (grown in_use x)) n p → p ≡ count in_use
  own n p r =
      let adds : require (is_addable x) 3 (count in_use) ≡ pass = rw is in
      fields_at in_use (count in_use) (new_record x) n p
      (sym (rows-own in_use (length buffer) x passed fits adds)
      ∙ sym (tries_vocabulary (grown in_use x)).same
      ∙ refuses_first (vocabulary_table (grown in_use x)) n p r)

  pub as_reader : AsReader buffer used x
  as_reader =
      record {
        same = follows (tries_vocabulary (grown in_use x)) (adding-reader buffer used x room.within passed fits is);
        own = own;
      }

-- What holds of a buffer while additions succeed.
pub record State (buffer : List ℕ) (used n : ℕ) (l : List Addition) : Type 0 where
  pub within : used ≤ length buffer
  pub accepts : vocabulary_rows (take used buffer) ≡ pass
  pub roles : role_count (take used buffer) ≡ n
  pub two : edition (take used buffer) ≡ 2
  pub records : contents (take used buffer) ≡ l
  pub statements : stated (take used buffer) ≡ statements_of l

-- The bytes that a call wrote are those in use after it.
in_use_after : (w buffer : List ℕ) (n : ℕ) → n ≡ length w
    → (n ≤ length (buffer_after (accepted w) buffer)) × (take n (buffer_after (accepted w) buffer) ≡ w)
in_use_after w buffer n e =
    let rest = drop (length w) buffer in
    (omega (arith, length-append w rest), take_at w rest n (sym e))

module _ (roles : ℕ) where
  state_turn : (buffer : List ℕ) (used n : ℕ) (x : Addition) (l : List Addition) → State buffer used roles l
      → new_length (adding buffer used x) ≡ accepted n
      → State (buffer_after (adding buffer used x) buffer) n roles (l ++ (x ∷ []))
  state_turn buffer used n x l s e =
      let done = adding_succeeded buffer used x n e in
      let fit = done.fit in
      let v = take used buffer in
      let now = in_use_after (grown v x) buffer n done.long in
      rw done.outcome record {
        within = now.0;
        accepts = rw now.1 (reading.grown-accepts v x fit.accepts fit.few fit.addable fit.own);
        roles = rw now.1 (reading.grown-roles v x fit.accepts fit.few fit.addable fit.own ∙ s.roles);
        two = rw now.1 (reading.grown-edition v x fit.accepts fit.few fit.addable fit.own ∙ s.two);
        records = rw now.1 (reading.grown-contents v x fit.accepts fit.few fit.addable fit.own
            ∙ ap (λ (m : List Addition). m ++ (x ∷ [])) s.records);
        statements = rw now.1 (reading.grown-stated v fit.accepts fit.few x fit.addable fit.own
            ∙ ap (λ (m : List Addition). m ++ statements_of (x ∷ [])) s.statements
            ∙ sym (reading.statements-append l (x ∷ [])));
      }

  state_end : (l m : List Addition) (buffer after : List ℕ) (used end : ℕ) → State buffer used roles m
      → Succeed buffer used l after end → State after end roles (m ++ l)
  state_end [] m buffer after used end s h = rw (h.0, h.1, append-nil m) s
  state_end (x ∷ l) m buffer after used end s h =
      subst (State after end roles) (append_assoc m (x ∷ []) l)
      (state_end l (m ++ (x ∷ [])) (buffer_after (adding buffer used x) buffer) after h.0 end
      (state_turn buffer used h.0 x m s h.1) h.2)

  -- an empty vocabulary
  state_start : (lent : List ℕ) (n : ℕ) → new_length (making (length lent) roles) ≡ accepted n
      → State (buffer_after (making (length lent) roles) lent) n roles []
  unfolding statements_of
  state_start lent n e =
      let done = making_succeeded (length lent) roles n e in
      let now = in_use_after (record_bytes (empty_header roles)) lent n done.long in
      rw done.outcome record {
        within = now.0;
        accepts = rw now.1 (reading.empty-accepts roles done.few);
        roles = rw now.1 (reading.empty-roles roles done.few);
        two = rw now.1 (reading.empty-edition roles done.few);
        records = rw now.1 (reading.empty-contents roles done.few);
        statements = rw now.1 (reading.empty-stated roles done.few);
      }

  shows : (after : List ℕ) (used : ℕ) (l : List Addition) → State after used roles l → Shows (take used after) roles l
  unfolding contents vocabulary_check
  shows after used l s =
      let v = take used after in
      let accepts : vocabulary_check v ≡ accepted (count v) = rw s.accepts in
      let header = (rows-vocabulary v s.accepts).sized.least in
      let listed = length-table (count v - 1) (λ i. shown (record_at v (suc i))) in
      let all : count v ≡ 1 + length l = omega (arith, header, listed, ap length s.records) in
      record {
        accepts = ((vocabulary_follows v).accepted_only (count v) accepts).0;
        counted = accepts ∙ ap (λ (n : ℕ). accepted n) all;
        roles = s.roles;
        second_edition = s.two;
        held = held-atoms v s.accepts s.two;
        records = s.records;
        statements = s.statements;
      }

pub writes_vocabularies : WritesVocabularies
writes_vocabularies =
    record {
      makes = λ lent roles n e. record {
        wrote = rw (making_succeeded (length lent) roles n e).outcome;
        accepts = (shows roles (buffer_after (making (length lent) roles) lent) n [] (state_start roles lent n e)).accepts;
      };
      only = λ buffer used n x e.
          let done = adding_succeeded buffer used x n e in rw done.outcome (only-new buffer used x n done);
      reader = as_reader;
      shows = λ lent roles l after used built.
          shows roles after used l
          (state_end roles l [] (buffer_after (making (length lent) roles) lent) after built.start used
          (state_start roles lent built.start built.made) built.added);
    }

-- the bytes in use after an addition that succeeded are accepted
pub addition-accepted : (buffer : List ℕ) (used : ℕ) (x : Addition) (n : ℕ) → new_length (adding buffer used x) ≡ accepted n
    → AcceptedVocabulary (take (used + record_size) (buffer_after (adding buffer used x) buffer))
unfolding vocabulary_check
addition-accepted buffer used x n e =
    let done = adding_succeeded buffer used x n e in
    let w = grown (take used buffer) x in
    let accepts : vocabulary_check w ≡ accepted (count w) = rw (grown-accepted buffer used x n done) in
    rw (done.outcome, (only-new buffer used x n done).grows) ((vocabulary_follows w).accepted_only (count w) accepts).0
