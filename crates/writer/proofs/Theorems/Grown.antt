-- The bytes in use with an addition: a vocabulary with one record more, and the link that reaches it.
--   relinked-length, grown-length   how many bytes they are
--   end_small, link_within          the link stands in the bytes in use
--   grown-kept, grown_link          which bytes stay, and what the link says
--   grown_behind                    the new record stands behind them
--   grown_grows                     they grow as `records` says
-- Assumes nothing.
use Prim.Native.Nat.{ℕ, zero, suc, ◌+◌, ◌*◌, ◌≤◌, ◌<◌}
use native.Mathlib.Omega.{arith}
use native.Mathlib.Decide.{ℕ_discrete, dec_lt}
use mathlib.Core.Path.{◌≡◌, refl, sym, ap, subst, ◌∙◌}
use mathlib.Core.Bool.{Bool, true, false, cond, ◌&&◌}
use mathlib.Core.List.{List}
use mathlib.Core.Logic.{◌⊎◌, inl, inr}
use lib.ListN.{length, get_or, drop, length-append, get_or-append}
use lib.Seq.{drop_at}
use lib.Dec.{eqb}
use borrow.Author.Tests.{eq-eqb, ne_eqb, eqb-true}
use Rattle.records.specs.Format.{record_size, record_limit, word_size, place_of_a, place_of_next, word_at, word_bytes}
use Rattle.records.specs.Format.{record_bytes, record_at, count, first_statement, edition, atoms_held}
use Rattle.records.specs.Finite.{put}
use Rattle.records.specs.Kinds.{kind_of, is_atom, is_statement}
use Rattle.records.specs.Atoms.{atoms}
use Rattle.records.specs.Chain.{chain_end}
use Rattle.records.specs.declared.fields.Record.{Record}
use Rattle.records.proofs.Laws.Parts.{put-length, put-drop, pair_off, pair_word, record_bytes_lem, record_behind}
use Rattle.records.proofs.Laws.Parts.{ButHeld, held_same, held-put, held-read}
use Rattle.records.proofs.Laws.Ranges.{term_no_statement}
use Rattle.records.proofs.Laws.Tests.{both_left}
use Rattle.records.proofs.Theorems.Accepted.{AcceptedFacts}
use Rattle.records.proofs.Theorems.Chains.{end_statement}
use Rattle.records.proofs.Theorems.Growth.{Grows, relink}
use Rattle.records.proofs.Theorems.Ranks.{rank_cong}
use Rattle.writer.specs.Additions.{Addition, term, statement, new_record, link_place, relinked, linked, grown}
use Rattle.writer.specs.Calls.{is_addable}

module _ (v : List ℕ) (good : AcceptedFacts v) where
  -- there is a header, and the records are all bytes
  some : 0 < count v
  some = omega (arith, good.sized.least)

  whole : record_size * count v ≡ length v
  whole = omega (arith, good.sized.whole)

  pub end_within : chain_end v < count v
  end_within = at (dec_lt 0 (chain_end v))
    where
      at : Dec (0 < chain_end v) → chain_end v < count v
      at (yes h) = (end_statement v good h).within
      at (no n) = omega (arith, some)

  pub end_small : chain_end v < record_limit
  end_small = omega (arith, end_within, whole, good.sized.most)

  -- the two places that the link may have
  pub data LinkAt : Type 0 where
    in_header : chain_end v ≡ 0 → link_place v ≡ place_of_a → LinkAt
    in_statement : 0 < chain_end v → link_place v ≡ record_size * chain_end v + place_of_next → LinkAt

  pub link_at : LinkAt
  link_at = at (ℕ_discrete (chain_end v) 0)
    where
      at : Dec (chain_end v ≡ 0) → LinkAt
      at (yes e) = in_header e (rw (eq-eqb (chain_end v) 0 e, e))
      at (no n) = in_statement (omega arith) (rw (ne_eqb (chain_end v) 0 n))

  pub link_within : link_place v + word_size ≤ length v
  link_within = at link_at
    where
      at : LinkAt → link_place v + word_size ≤ length v
      at (in_header e p) = omega (arith, p, good.sized.least)
      at (in_statement h p) = omega (arith, p, end_within, whole)

  pub relinked-length : (x : Addition) → length (relinked x v) ≡ length v
  relinked-length (term kind a b) = refl
  relinked-length (statement a b) = put-length v (link_place v) (word_bytes (count v)) link_within

  linked-length : (x : Addition) → length (linked v x) ≡ length v + record_size
  linked-length x =
      length-append (relinked x v) (record_bytes (new_record x)) ∙ ap (λ (n : ℕ). n + record_size) (relinked-length x)

  record_new : (x : Addition) → record_at (linked v x) (count v) ≡ new_record x
  record_new x = record_behind (relinked x v) (count v) (new_record x) (relinked-length x ∙ sym whole)

  -- a byte of the records that were there
  byte_front : (x : Addition) (i : ℕ) → i < length v → get_or (linked v x) i 0 ≡ get_or (relinked x v) i 0
  byte_front x i h = get_or-append (relinked x v) (record_bytes (new_record x)) 0 i (omega (arith, relinked-length x))

  -- A byte that is not the link's.
  abbrev pub Elsewhere : Addition → ℕ → Type 0
  Elsewhere (term kind a b) i = Unit {0}
  Elsewhere (statement a b) i = (i ≡ link_place v → ⊥) × (i ≡ link_place v + 1 → ⊥)

  byte_kept : (x : Addition) (i : ℕ) → i < length v → Elsewhere x i → get_or (linked v x) i 0 ≡ get_or v i 0
  byte_kept (term kind a b) i h off = byte_front (term kind a b) i h
  byte_kept (statement a b) i h off =
      byte_front (statement a b) i h ∙ pair_off v (link_place v) (count v) link_within i off.0 off.1

  link_written : (a b : ℕ) → word_at (linked v (statement a b)) (link_place v) ≡ count v
  link_written a b =
      rw (
        byte_front (statement a b) (link_place v) (omega (arith, link_within)),
        byte_front (statement a b) (link_place v + 1) (omega (arith, link_within)),
      )
      (pair_word v (link_place v) (count v) link_within)

  -- a number that is not the link
  word_kept : (x : Addition) (i : ℕ) → i + 1 < length v → Elsewhere x i → Elsewhere x (i + 1)
      → word_at (linked v x) i ≡ word_at v i
  word_kept x i h first second = rw (byte_kept x i (omega arith) first, byte_kept x (i + 1) h second)

  -- A byte of record j is not the link's, unless it is of the header's A or of the last statement's next.
  off : (x : Addition) (j k : ℕ) → k < record_size → (2 ≤ k → k < 4 → chain_end v ≡ 0 → 0 < j)
      → (6 ≤ k → 0 < chain_end v → j ≡ chain_end v → ⊥) → Elsewhere x (record_size * j + k)
  off (term kind a b) j k h p q = tt
  off (statement a b) j k h p q = at link_at
    where
      at : LinkAt → Elsewhere (statement a b) (record_size * j + k)
      at (in_header e z) = (
        λ n. omega (arith, z, p (omega (arith, z)) (omega (arith, z)) e),
        λ n. omega (arith, z, p (omega (arith, z)) (omega (arith, z)) e),
      )
      at (in_statement l z) = (
        λ n. q (omega (arith, z)) l (omega (arith, z)),
        λ n. q (omega (arith, z)) l (omega (arith, z)),
      )

  module _ (x : Addition) (j : ℕ) (h : j < count v) where
    abbrev at : ℕ
    at = record_size * j

    -- the bytes of the kind, of the second byte and of B
    plain : (k : ℕ) → (k < 2) ⊎ ((4 ≤ k) × (k < 6)) → get_or (linked v x) (at + k) 0 ≡ get_or v (at + k) 0
    plain k (inl l) =
        byte_kept x (at + k) (omega (arith, whole))
        (off x j k (omega arith) (λ m. absurd (omega arith)) (λ m. absurd (omega arith)))
    plain k (inr l) =
        byte_kept x (at + k) (omega (arith, whole, l.1))
        (off x j k (omega (arith, l.1)) (λ m n. absurd (omega (arith, l.0))) (λ m. absurd (omega (arith, l.1))))

    kind-kept : (record_at (linked v x) j).kind ≡ (record_at v j).kind
    kind-kept =
        let same : at + 0 ≡ at = omega arith in
        rw (record_bytes_lem (linked v x) j, record_bytes_lem v j) (rw same at (plain 0 (inl (omega arith))))

    second-kept : (record_at (linked v x) j).second ≡ (record_at v j).second
    second-kept = rw (record_bytes_lem (linked v x) j, record_bytes_lem v j) (plain 1 (inl (omega arith)))

    b-kept : (record_at (linked v x) j).b ≡ (record_at v j).b
    b-kept =
        let same : at + 5 ≡ at + 4 + 1 = omega arith in
        rw (record_bytes_lem (linked v x) j, record_bytes_lem v j)
        (rw (plain 4 (inr (omega arith, omega arith)), rw same at (plain 5 (inr (omega arith, omega arith)))))

    -- A and next, unless the link stands there
    a-kept : Elsewhere x (at + 2) → Elsewhere x (at + 2 + 1) → (record_at (linked v x) j).a ≡ (record_at v j).a
    a-kept first second =
        rw (record_bytes_lem (linked v x) j, record_bytes_lem v j) (word_kept x (at + 2) (omega (arith, whole)) first second)

    next-kept : Elsewhere x (at + 6) → Elsewhere x (at + 6 + 1) → (record_at (linked v x) j).next ≡ (record_at v j).next
    next-kept first second =
        rw (record_bytes_lem (linked v x) j, record_bytes_lem v j) (word_kept x (at + 6) (omega (arith, whole)) first second)

    -- the link stands in another record's A
    a-apart : (chain_end v ≡ 0 → 0 < j) → (record_at (linked v x) j).a ≡ (record_at v j).a
    a-apart p =
        let same : at + 2 + 1 ≡ at + 3 = omega arith in
        a-kept (off x j 2 (omega arith) (λ m n. p) (λ m. absurd (omega arith)))
        (rw same (off x j 3 (omega arith) (λ m n. p) (λ m. absurd (omega arith))))

    -- or in another's next
    next-apart : (0 < chain_end v → j ≡ chain_end v → ⊥) → (record_at (linked v x) j).next ≡ (record_at v j).next
    next-apart p =
        let same : at + 6 + 1 ≡ at + 7 = omega arith in
        next-kept (off x j 6 (omega arith) (λ m n. absurd (omega arith)) (λ m. p))
        (rw same (off x j 7 (omega arith) (λ m n. absurd (omega arith)) (λ m. p)))

  -- The bytes with a term: another k in the header, where that holds one and the term is an atom.
  module _ (kind a b : ℕ) where
    abbrev term-new : Addition
    term-new = term kind a b

    abbrev w : List ℕ
    w = linked v term-new

    abbrev counts : Bool
    counts = eqb (edition w) 2 && is_atom kind

    abbrev recount : Bool → List ℕ
    recount c = cond c (put w place_of_next (word_bytes (atoms w))) w

    with_header : record_size ≤ length w
    with_header = omega (arith, linked-length term-new)

    recount_held : (c : Bool) → ButHeld (recount c) w
    recount_held true = held-put w (atoms w) with_header
    recount_held false = held_same w

    recount_read : (c : Bool) → atoms_held (recount c) ≡ cond c (atoms w) (atoms_held w)
    recount_read true = held-read w (atoms w) with_header
    recount_read false = refl

    but : ButHeld (grown v term-new) w
    unfolding grown
    but = recount_held counts

    but_kind : (j : ℕ) → (record_at (grown v term-new) j).kind ≡ (record_at w j).kind
    but_kind zero = but.kind
    but_kind (suc j) = ap (λ (r : Record). r.kind) (but.later (suc j) (omega arith))

    but_second : (j : ℕ) → (record_at (grown v term-new) j).second ≡ (record_at w j).second
    but_second zero = but.second
    but_second (suc j) = ap (λ (r : Record). r.second) (but.later (suc j) (omega arith))

    but_b : (j : ℕ) → (record_at (grown v term-new) j).b ≡ (record_at w j).b
    but_b zero = but.b
    but_b (suc j) = ap (λ (r : Record). r.b) (but.later (suc j) (omega arith))

    edition-kept : edition w ≡ edition v
    edition-kept = second-kept term-new 0 some

    pub atoms-kept : atoms (grown v term-new) ≡ atoms w
    atoms-kept = rw but.size (rank_cong (grown v term-new) w (count w) (λ i h. but_kind i))

    term-read : atoms_held (grown v term-new) ≡ cond counts (atoms w) (atoms_held w)
    unfolding grown
    term-read = recount_read counts

    term-held : atoms_held (grown v term-new)
        ≡ cond (eqb (edition v) 2 && is_atom kind) (atoms (grown v term-new)) (atoms_held v)
    term-held = term-read ∙ rw (edition-kept, atoms-kept, next-kept term-new 0 some tt tt)

    -- A term changes no link.
    term-grows : is_statement kind ≡ false → Grows v (grown v term-new) (new_record term-new)
    term-grows is =
        record {
          longer = but.size ∙ linked-length term-new;
          new = but.later (count v) some ∙ record_new term-new;
          kind = λ j h. but_kind j ∙ kind-kept term-new j h;
          second = λ j h. but_second j ∙ second-kept term-new j h;
          b = λ j h. but_b j ∙ b-kept term-new j h;
          a = λ j p h. ap (λ (r : Record). r.a) (but.later j p) ∙ a-kept term-new j h tt tt;
          first = rw is (but.a ∙ a-kept term-new 0 some tt tt);
          next = λ j p h. rw is (ap (λ (r : Record). r.next) (but.later j p) ∙ next-kept term-new j h tt tt);
          held = term-held;
        }

  -- A statement changes the link at the end of the chain.
  module _ (a b : ℕ) where
    abbrev x : Addition
    x = statement a b

    first-linked : LinkAt → first_statement (linked v x) ≡ relink v (new_record x) 0 (first_statement v)
    unfolding kind_of
    first-linked (in_header e z) =
        ap (λ (r : Record). r.a) (record_bytes_lem (linked v x) 0)
        ∙ subst (λ (i : ℕ). word_at (linked v x) i ≡ count v) z (link_written a b)
        ∙ rw (eq-eqb 0 (chain_end v) (sym e))
    first-linked (in_statement l z) = rw (ne_eqb 0 (chain_end v) (λ e. omega arith)) (a-apart x 0 some (λ e. omega arith))

    next-linked : (j : ℕ) → 0 < j → j < count v → LinkAt
        → (record_at (linked v x) j).next ≡ relink v (new_record x) j (record_at v j).next
    unfolding kind_of
    next-linked j p h (in_header e z) =
        rw (ne_eqb j (chain_end v) (λ q. omega arith)) (next-apart x j h (λ l q. omega arith))
    next-linked j p h (in_statement l z) = at (ℕ_discrete j (chain_end v))
      where
        at : Dec (j ≡ chain_end v) → (record_at (linked v x) j).next ≡ relink v (new_record x) j (record_at v j).next
        at (yes e) =
            let place : link_place v ≡ record_size * j + place_of_next = omega (arith, z, e) in
            ap (λ (r : Record). r.next) (record_bytes_lem (linked v x) j)
            ∙ subst (λ (i : ℕ). word_at (linked v x) i ≡ count v) place (link_written a b)
            ∙ rw (eq-eqb j (chain_end v) e)
        at (no n) = rw (ne_eqb j (chain_end v) n) (next-apart x j h (λ m. n))

    -- no atom
    statement-held : (e : Bool) → atoms_held (linked v x) ≡ cond (e && is_atom 9) (atoms (linked v x)) (atoms_held v)
    unfolding kind_of
    statement-held true = next-apart x 0 some (λ l e. omega arith)
    statement-held false = next-apart x 0 some (λ l e. omega arith)

    statement-grows : Grows v (grown v x) (new_record x)
    unfolding grown
    statement-grows =
        record {
          longer = linked-length x;
          new = record_new x;
          kind = λ j h. kind-kept x j h;
          second = λ j h. second-kept x j h;
          b = λ j h. b-kept x j h;
          a = λ j p h. a-apart x j h (λ e. p);
          first = first-linked link_at;
          next = λ j p h. next-linked j p h link_at;
          held = statement-held (eqb (edition v) 2);
        }

  -- What no row 3 speaks against grows as `records` says.
  pub grown_grows : (x : Addition) → is_addable x ≡ true → Grows v (grown v x) (new_record x)
  grown_grows (term kind a b) is = term-grows kind a b (term_no_statement kind is)
  grown_grows (statement a b) is = statement-grows a b

  pub grown-length : (x : Addition) → length (grown v x) ≡ length v + record_size
  unfolding grown
  grown-length (term kind a b) = (but kind a b).size ∙ linked-length (term kind a b)
  grown-length (statement a b) = linked-length (statement a b)

  -- A byte that is not of the k that the header holds.
  abbrev pub Uncounted : ℕ → Type 0
  Uncounted i = edition v ≡ 2 → (i < place_of_next) ⊎ (record_size ≤ i)

  pub grown-kept : (x : Addition) (i : ℕ) → i < length v → Elsewhere x i → Uncounted i → get_or (grown v x) i 0 ≡ get_or v i 0
  unfolding grown
  grown-kept (statement a b) i h off free = byte_kept (statement a b) i h off
  grown-kept (term kind a b) i h off free = at (counts kind a b) refl ∙ byte_kept (term kind a b) i h off
    where
      at : (c : Bool) → counts kind a b ≡ c → get_or (recount kind a b c) i 0 ≡ get_or (w kind a b) i 0
      at false q = refl
      at true q =
          let first = both_left (eqb (edition (w kind a b)) 2) (is_atom kind) q in
          let two : edition v ≡ 2 = sym (edition-kept kind a b) ∙ eqb-true (edition (w kind a b)) 2 first in
          of (free two)
        where
          of : (i < place_of_next) ⊎ (record_size ≤ i) → get_or (recount kind a b true) i 0 ≡ get_or (w kind a b) i 0
          of (inl l) =
              pair_off (w kind a b) place_of_next (atoms (w kind a b)) (with_header kind a b) i (λ e. omega arith)
              (λ e. omega arith)
          of (inr l) =
              pair_off (w kind a b) place_of_next (atoms (w kind a b)) (with_header kind a b) i (λ e. omega arith)
              (λ e. omega arith)

  pub grown_link : (a b : ℕ) → word_at (grown v (statement a b)) (link_place v) ≡ count v
  unfolding grown
  grown_link a b = link_written a b

  linked_behind : (x : Addition) → drop (length v) (linked v x) ≡ record_bytes (new_record x)
  linked_behind x = drop_at (relinked x v) (record_bytes (new_record x)) (length v) (relinked-length x)

  pub grown_behind : (x : Addition) → drop (length v) (grown v x) ≡ record_bytes (new_record x)
  unfolding grown
  grown_behind (statement a b) = linked_behind (statement a b)
  grown_behind (term kind a b) = at (counts kind a b) ∙ linked_behind (term kind a b)
    where
      at : (c : Bool) → drop (length v) (recount kind a b c) ≡ drop (length v) (w kind a b)
      at false = refl
      at true =
          put-drop (w kind a b) place_of_next (word_bytes (atoms (w kind a b))) (with_header kind a b) (length v)
          good.sized.least
