-- Term records: their terms written out, and the codes of these.
--   earlier-term                                an earlier term record, as rows 17 and 18 ask for it
--   First, Applied                              what is told of the constant's record; of a record of kind 2
--   Valid, code_zero                            codes: 0, or a function above 0 with an origin; 0 is the constant's
--   Inner, inner_local, line_inner              the inner term of what a record says comes before it
--   entry_past, past_line                       records past the end say nothing
--   term_eq, header_line, header-term           a record's term from those of earlier records; the header counts as the constant
--   term-kind, line_first, line_applied         the kinds of term records, and what these say
--   term-positive, function-positive            the header is no term record, and no function
--   first_record, applied_record, term_record   a term record is the constant's, or of kind 2
--   term-first, term-applied                    their terms
--   apply_valid, apply-small, apply-term        the code of a function at the term of a record
--   header_code, first_code, applied_code       the codes of records
--   code_cases                                  what is true of 0 and of functions at records is true of every code
--   code_valid, code_small, code_term_lem           the code of a term record
--   code_apply, code_unique, code_same          the law of the index: two codes are equal exactly if their terms are
-- Assumes nothing.
use Prim.Native.Nat.{ℕ, zero, suc, ◌*◌, ◌/◌, ◌%◌, ◌≤◌, ◌<◌}
use native.Mathlib.Omega.{arith}
use native.Mathlib.Decide.{dec_lt}
use mathlib.Core.Path.{◌≡◌, refl, sym, ap, subst, ◌∙◌}
use mathlib.Core.Bool.{Bool, true, false, beq, ◌||◌}
use mathlib.Core.List.{List}
use mathlib.Core.Logic.{◌⊎◌, inl, inr}
use lib.ListN.{length, take, drop_of_length-le}
use lib.Dec.{ltb, eqb}
use borrow.Author.Tests.{ltb-true, eqb-true, eq-eqb, ne_eqb}
use Rattle.records.specs.Format.{record_at, count, word_at}
use Rattle.records.specs.Kinds as vocabulary
use Rattle.records.proofs.Laws.Tests.{clash, both_left, both_right, same_truth}
use Rattle.records.proofs.Theorems.Accepted.{AcceptedFacts}
use Rattle.records.proofs.Laws.InOrder.{in_order}
use Rattle.columns.specs.Literals.{SkolemTerm, constant, apply, same_term}
use Rattle.columns.specs.Code.Packed.{term_limit}
use Rattle.columns.proofs.Theorems.Literals.{same_term-true, same_term_refl}
use Rattle.scripts.specs.Format.{entry_size, entry_at, entries, Line, blank, theConstant, applied, step, Kind, kind_of}
use Rattle.scripts.specs.Format.{line_at, is_term, term_of, term_at}
use Rattle.scripts.specs.Form.{earlier_term, is_function, is_constant, function_fits, term_fits}
use Rattle.scripts.specs.Code.Codes.{TermRecord, origin, IsOrigin, function_limit, code_of, line_code, code_at, code_term}
use Rattle.scripts.proofs.Refinement.Lines.{kind_past}
use Rattle.scripts.proofs.Refinement.Origins.{origin-same, origin-least, origin-term, origin-is}
use Rattle.scripts.proofs.Theorems.Form.{KeepsForm}

pub earlier-term : (s : List ℕ) (i t : ℕ) → earlier_term s i t ≡ true → i ≤ entries s → TermRecord s t
earlier-term s i t e h =
    let before = ltb-true t i (both_left (ltb t i) (is_term (entry_at s t).w0) e) in
    record { within = omega arith; term = both_right (ltb t i) (is_term (entry_at s t).w0) e }

-- Record n is of kind 2: the function is a restriction of the vocabulary, and the inner term comes before.
pub record Applied (v s : List ℕ) (n : ℕ) : Type 0 where
  pub kind : (entry_at s n).w0 ≡ 2
  pub positive : 0 < (entry_at s n).w1
  pub function : (entry_at s n).w1 < count v
  pub small : (entry_at s n).w1 < function_limit
  pub earlier : (entry_at s n).w2 < n
  pub inner : TermRecord s (entry_at s n).w2

-- Record n is the constant's.
pub record First (s : List ℕ) (n : ℕ) : Type 0 where
  pub kind : (entry_at s n).w0 ≡ 1
  pub number : n ≡ 1

-- c is 0, or has a function above 0 and an origin.
abbrev pub Valid : List ℕ → ℕ → Type 0
Valid s c = (c ≡ 0) ⊎ ((0 < c % function_limit) × IsOrigin s (c / function_limit))

pub code_zero : (s : List ℕ) → code_term s 0 ≡ constant
unfolding code_term
code_zero s = refl

-- the inner term of what record i says comes before it
abbrev Inner : ℕ → Line → Type 0
Inner i blank = Unit {0}
Inner i theConstant = Unit {0}
Inner i (applied f t) = t < i
Inner i (step t) = Unit {0}

inner_local : (i : ℕ) (l : Line) → Inner i l → (f g : ℕ → SkolemTerm) → ((j : ℕ) → j < i → f j ≡ g j) → term_of l f ≡ term_of l g
inner_local i blank h f g e = refl
inner_local i theConstant h f g e = refl
inner_local i (applied k t) h f g e = ap (apply k) (e t h)
inner_local i (step t) h f g e = refl

-- there is nothing past the end
entry_past : (s : List ℕ) (i : ℕ) → length s % entry_size ≡ 0 → entries s ≤ i → (entry_at s i).w0 ≡ 0
unfolding entry_at
entry_past s i w h = ap (λ (l : List ℕ). word_at (take entry_size l) 0) (drop_of_length-le s {i = entry_size * i} (omega arith))

term-kind : (k : ℕ) → is_term k ≡ true → (k ≡ 1) ⊎ (k ≡ 2)
term-kind k e = at (eqb k 1) refl e
  where
    at : (b : Bool) → eqb k 1 ≡ b → (b || eqb k 2) ≡ true → (k ≡ 1) ⊎ (k ≡ 2)
    at true q h = inl (eqb-true k 1 q)
    at false q h = inr (eqb-true k 2 h)

-- a test that agrees with one that holds
same_true : (b : Bool) → beq true b ≡ true → b ≡ true
same_true true e = refl
same_true false e = e

module _ (s : List ℕ) (n : ℕ) where
  -- what a term record says
  line_first : (entry_at s n).w0 ≡ 1 → line_at s n ≡ theConstant
  unfolding kind_of
  line_first e = ap (λ (k : ℕ). (kind_of k).says (entry_at s n)) e

  line_applied : (entry_at s n).w0 ≡ 2 → line_at s n ≡ applied (entry_at s n).w1 (entry_at s n).w2
  unfolding kind_of
  line_applied e = ap (λ (k : ℕ). (kind_of k).says (entry_at s n)) e

module _ (v s : List ℕ) (good : AcceptedFacts v) (f : KeepsForm v s) where
  header_line : line_at s 0 ≡ blank
  header_line = ap (λ (k : Kind). k.says (entry_at s 0)) (kind_past (entry_at s 0).w0 (omega (arith, f.header)))

  past_line : (i : ℕ) → entries s ≤ i → line_at s i ≡ blank
  unfolding kind_of
  past_line i h = ap (λ (k : ℕ). (kind_of k).says (entry_at s i)) (entry_past s i f.sized.whole h)

  fits_inner : (i : ℕ) (l : Line) → function_fits v s i l ≡ true → Inner i l
  fits_inner i blank e = tt
  fits_inner i theConstant e = tt
  fits_inner i (applied k t) e =
      let earlier = both_right (is_function v k) (earlier_term s i t) e in
      ltb-true t i (both_left (ltb t i) (is_term (entry_at s t).w0) earlier)
  fits_inner i (step t) e = tt

  line_inner : (i : ℕ) → Inner i (line_at s i)
  line_inner zero = subst (Inner 0) (sym header_line) tt
  line_inner (suc i) = at (dec_lt (suc i) (entries s))
    where
      l : Line
      l = line_at s (suc i)

      at : Dec (suc i < entries s) → Inner (suc i) (line_at s (suc i))
      at (yes h) =
          let fit = f.terms (suc i) (omega arith) h in
          fits_inner (suc i) l (both_right (beq (is_constant l) (eqb (suc i) 1)) (function_fits v s (suc i) l) fit)
      at (no n) = subst (Inner (suc i)) (sym (past_line (suc i) (omega arith))) tt

  pub term_eq : (i : ℕ) → term_at s i ≡ term_of (line_at s i) (term_at s)
  unfolding term_at
  term_eq i =
      in_order constant (λ earlier j. term_of (line_at s j) earlier) (λ j g h e. inner_local j (line_at s j) (line_inner j) g h
      e) i

  pub header-term : term_at s 0 ≡ constant
  header-term = term_eq 0 ∙ ap (λ (l : Line). term_of l (term_at s)) header_line

  pub term-positive : (n : ℕ) → TermRecord s n → 0 < n
  term-positive zero t =
      let z : is_term 32 ≡ true = subst (λ (k : ℕ). is_term k ≡ true) f.header t.term in
      absurd (clash (cc))
  term-positive (suc n) t = omega arith

  function-positive : (k : ℕ) → is_function v k ≡ true → 0 < k
  unfolding vocabulary.kind_of
  function-positive zero e =
      let is = both_right (ltb 0 (count v)) (vocabulary.is_restriction (record_at v 0).kind) e in
      let z : vocabulary.is_restriction 16 ≡ true = subst (λ (k : ℕ). vocabulary.is_restriction k ≡ true) good.header is in
      absurd (clash (cc))
  function-positive (suc k) e = omega arith

  first_record : (n : ℕ) → TermRecord s n → (entry_at s n).w0 ≡ 1 → First s n
  first_record n t e =
      let p = term-positive n t in
      let fit = subst (λ (l : Line). term_fits v s n l ≡ true) (line_first s n e) (f.terms n p t.within) in
      record { kind = e; number = eqb-true n 1 (same_true (eqb n 1) (both_left (beq true (eqb n 1)) true fit)) }

  pub applied_record : (n : ℕ) → TermRecord s n → (entry_at s n).w0 ≡ 2 → Applied v s n
  applied_record n t e =
      let w1 = (entry_at s n).w1 in
      let w2 = (entry_at s n).w2 in
      let line = line_applied s n e in
      let fit = subst (λ (l : Line). term_fits v s n l ≡ true) line (f.terms n (term-positive n t) t.within) in
      let fits = both_right (beq false (eqb n 1)) (function_fits v s n (applied w1 w2)) fit in
      let function = both_left (is_function v w1) (earlier_term s n w2) fits in
      let earlier = both_right (is_function v w1) (earlier_term s n w2) fits in
      let below = ltb-true w1 (count v)
      (both_left (ltb w1 (count v)) (vocabulary.is_restriction (record_at v w1).kind) function) in
      record {
        kind = e;
        positive = function-positive w1 function;
        function = below;
        small = omega (arith, below, good.sized.most);
        earlier = fits_inner n (applied w1 w2) fits;
        inner = earlier-term s n w2 earlier (omega (arith, t.within));
      }

  pub term_record : (n : ℕ) → TermRecord s n → First s n ⊎ Applied v s n
  term_record n t = at (term-kind (entry_at s n).w0 t.term)
    where
      at : ((entry_at s n).w0 ≡ 1) ⊎ ((entry_at s n).w0 ≡ 2) → First s n ⊎ Applied v s n
      at (inl e) = inl (first_record n t e)
      at (inr e) = inr (applied_record n t e)

  pub term-first : (n : ℕ) → First s n → term_at s n ≡ constant
  term-first n t = term_eq n ∙ ap (λ (l : Line). term_of l (term_at s)) (line_first s n t.kind)

  pub term-applied : (n : ℕ) → Applied v s n → term_at s n ≡ apply (entry_at s n).w1 (term_at s (entry_at s n).w2)
  term-applied n t = term_eq n ∙ ap (λ (l : Line). term_of l (term_at s)) (line_applied s n t.kind)

  -- the code of a function at the term of a record
  module _ (i n : ℕ) (p : 0 < i) (h : i < function_limit) (t : TermRecord s n) where
    pub apply_valid : Valid s (code_of i (origin s n))
    apply_valid =
        let e : origin s n ≡ code_of i (origin s n) / function_limit = omega arith in
        inr (omega arith, subst (IsOrigin s) e (origin-is s n t))

    pub apply-small : code_of i (origin s n) < term_limit
    apply-small = omega (arith, t.within, origin-least s n t, f.sized.most)

    pub apply-term : code_term s (code_of i (origin s n)) ≡ apply i (term_at s n)
    unfolding code_term
    apply-term =
        let low : code_of i (origin s n) % function_limit ≡ i = omega arith in
        let high : code_of i (origin s n) / function_limit ≡ origin s n = omega arith in
        rw (low, high, ne_eqb i 0 (λ z. omega arith), origin-term s n t)

  -- the code of a term record
  pub header_code : code_at s 0 ≡ 0
  header_code = ap (line_code s) header_line

  pub first_code : (n : ℕ) → First s n → code_at s n ≡ 0
  first_code n t = ap (line_code s) (line_first s n t.kind)

  pub applied_code : (n : ℕ) → Applied v s n → code_at s n ≡ code_of (entry_at s n).w1 (origin s (entry_at s n).w2)
  applied_code n t = ap (line_code s) (line_applied s n t.kind)

  -- what is true of 0 and of functions at term records is true of every term record's code
  code_cases : (P : ℕ → SkolemTerm → Type 0) → P 0 constant
      → ((i n : ℕ) → 0 < i → i < function_limit → TermRecord s n → P (code_of i (origin s n)) (apply i (term_at s n)))
      → (n : ℕ) → TermRecord s n → P (code_at s n) (term_at s n)
  code_cases P none some n t = at (term_record n t)
    where
      at : First s n ⊎ Applied v s n → P (code_at s n) (term_at s n)
      at (inl r) = rw (first_code n r, term-first n r) none
      at (inr r) =
          rw (applied_code n r, term-applied n r)
          (some (entry_at s n).w1 (entry_at s n).w2 r.positive r.small r.inner)

  pub code_valid : (n : ℕ) → TermRecord s n → Valid s (code_at s n)
  code_valid n t = code_cases (λ c u. Valid s c) (inl refl) apply_valid n t

  pub code_small : (n : ℕ) → TermRecord s n → code_at s n < term_limit
  code_small n t = code_cases (λ c u. c < term_limit) (omega arith) apply-small n t

  pub code_term_lem : (n : ℕ) → TermRecord s n → code_term s (code_at s n) ≡ term_at s n
  code_term_lem n t = code_cases (λ c u. code_term s c ≡ u) (code_zero s) apply-term n t

  -- a code that is not 0 is that of a function at an origin
  code_apply : (c : ℕ) → 0 < c % function_limit → code_term s c ≡ apply (c % function_limit) (term_at s (c / function_limit))
  unfolding code_term
  code_apply c p = rw (ne_eqb (c % function_limit) 0 (λ z. omega arith))

  pub code_unique : (c d : ℕ) → Valid s c → Valid s d → code_term s c ≡ code_term s d → c ≡ d
  code_unique c d (inl a) (inl b) e = a ∙ sym b
  code_unique c d (inl a) (inr b) e =
      let z = sym (code_zero s) ∙ ap (code_term s) (sym a) ∙ e ∙ code_apply d b.0 in
      absurd (clash (cc))
  code_unique c d (inr a) (inl b) e =
      let z = sym (code_apply c a.0) ∙ e ∙ ap (code_term s) b ∙ code_zero s in
      absurd (clash (cc))
  code_unique c d (inr a) (inr b) e =
      let both = sym (code_apply c a.0) ∙ e ∙ code_apply d b.0 in
      let function : c % function_limit ≡ d % function_limit = cc in
      let term : term_at s (c / function_limit) ≡ term_at s (d / function_limit) = cc in
      let inner = sym a.1.first ∙ origin-same s (c / function_limit) (d / function_limit) term ∙ b.1.first in
      omega arith

  pub code_same : (c d : ℕ) → Valid s c → Valid s d → same_term (code_term s c) (code_term s d) ≡ eqb c d
  code_same c d a b =
      same_truth (same_term (code_term s c) (code_term s d)) (eqb c d)
      (λ e. eq-eqb c d (code_unique c d a b (same_term-true (code_term s c) (code_term s d) e)))
      (λ e. subst (λ (x : ℕ). same_term (code_term s c) (code_term s x) ≡ true) (eqb-true c d e) (same_term_refl (code_term s c)))
