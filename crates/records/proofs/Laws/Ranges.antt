-- Kinds by ranges: the tests of a `match` over kind ranges, and what they say of the definitions by kind.
--   Run, between                       what holds at each number of a range
--   kind_past, kind_tested             past the table there is no kind; a test that holds along the table
--   term_range, atom_range, ..         which kinds are terms, atoms, names, restrictions, statements
--   restriction-kind, statement-kind   a restriction is of kind 7 or 8, a statement of kind 9
--   term_no_statement                  no term is a statement
--   key_same                           a key made of kind and A
-- Assumes nothing.
use Prim.Native.Nat.{ℕ, zero, suc, ◌+◌, ◌*◌, ◌<◌, ◌≤◌}
use native.Mathlib.Omega.{arith}
use native.Mathlib.Decide.{ℕ_discrete, dec_lt}
use mathlib.Core.Path.{◌≡◌, refl, sym, subst, ◌∙◌}
use mathlib.Core.Bool.{Bool, true, false, beq, ◌&&◌, ◌||◌, and-false}
use mathlib.Core.List.{List, [], ◌∷◌}
use mathlib.Core.Logic.{◌⊎◌, inl, inr}
use lib.ListN.{length, get_or, get_or-eq_default}
use lib.Dec.{leb, eqb}
use borrow.Author.Tests.{eq-eqb, ne_eqb, lt-leb, leb-true, eqb-true}
use Rattle.records.specs.Kinds.{are_terms, are_atoms, are_names}
use Rattle.records.specs.Kinds.{are_restrictions, are_statements, Kind}
use Rattle.records.specs.Kinds.{no_kind, kinds, kind_of, is_term, is_atom, is_name, is_restriction, is_statement}
use Rattle.records.proofs.Laws.Tests.{clash, both_left, both_right}
use Rattle.records.specs.declared.kinds.Class.{Class}
use Rattle.records.specs.declared.kinds.Class.TheVariants.{Silent, Connective, Name, Restriction, Statement}

-- What holds at each of n numbers from k on.
abbrev pub Run : (ℕ → Type 0) → ℕ → ℕ → Type 0
Run P k zero = Unit {0}
Run P k (suc n) = P k × Run P (suc k) n

pub between : (P : ℕ → Type 0) (n a : ℕ) → Run P a n → (k : ℕ) → a ≤ k → k < a + n → P k
between P zero a r k l h = absurd (omega arith)
between P (suc n) a r k l h = at (ℕ_discrete a k) (between P n (suc a) r.1 k)
  where
    at : Dec (a ≡ k) → (suc a ≤ k → k < suc a + n → P k) → P k
    at (yes e) next = subst P e r.0
    at (no e) next = next (omega arith) (omega arith)

-- The table of kinds. A test of each entry with its number, which holds along the table and past it, holds of every number.
abbrev pub tested : (ℕ → Kind → Bool) → ℕ → List Kind → Bool
tested test n [] = true
tested test n (k ∷ ks) = test n k && tested test (suc n) ks

tested_at : (test : ℕ → Kind → Bool) (n : ℕ) (l : List Kind) → tested test n l ≡ true → (i : ℕ) → i < length l
    → test (n + i) (get_or l i no_kind) ≡ true
tested_at test n [] e i h = absurd (omega arith)
tested_at test n (k ∷ ks) e zero h =
    let same : n + 0 ≡ n = omega arith in rw same (both_left (test n k) (tested test (suc n) ks) e)
tested_at test n (k ∷ ks) e (suc i) h =
    let same : n + suc i ≡ suc n + i = omega arith in
    rw same (tested_at test (suc n) ks (both_right (test n k) (tested test (suc n) ks) e) i (omega arith))

pub kind_past : (k : ℕ) → length kinds ≤ k → kind_of k ≡ no_kind
unfolding kind_of
kind_past k h = get_or-eq_default kinds no_kind h

pub kind_tested : (test : ℕ → Kind → Bool) → tested test 0 kinds ≡ true
    → ((k : ℕ) → length kinds ≤ k → test k no_kind ≡ true) → (k : ℕ) → test k (kind_of k) ≡ true
unfolding kind_of
kind_tested test each past k = at (dec_lt k (length kinds))
  where
    at : Dec (k < length kinds) → test k (kind_of k) ≡ true
    at (yes h) = let same : 0 + k ≡ k = omega arith in rw same at (tested_at test 0 kinds each k h)
    at (no n) = rw (kind_past k (omega arith)) (past k (omega arith))

pub same_true : (a b : Bool) → beq a b ≡ true → a ≡ b
same_true true true e = refl
same_true true false e = absurd (clash (cc))
same_true false true e = absurd (clash (cc))
same_true false false e = refl

-- The numbers of the kinds of a class: two tests that agree along the table.
module _ (are : Class → Bool) (is : ℕ → Bool) (silent : are Silent ≡ false) where
  class_range : tested (λ n k. beq (are k.class) (is n)) 0 kinds ≡ true → ((k : ℕ) → length kinds ≤ k → is k ≡ false)
      → (k : ℕ) → are (kind_of k).class ≡ is k
  class_range each past k =
      same_true (are (kind_of k).class) (is k)
      (kind_tested (λ n k. beq (are k.class) (is n)) each (λ k h. rw (silent, past k h)) k)

pub term_range : (k : ℕ) → is_term k ≡ (leb 1 k && leb k 8)
term_range = class_range are_terms (λ k. leb 1 k && leb k 8) refl refl (λ k h. rw (lt-leb k 8 (omega arith))
    (and-false (leb 1 k)))

pub restriction_range : (k : ℕ) → is_restriction k ≡ (leb 7 k && leb k 8)
restriction_range =
    class_range are_restrictions (λ k. leb 7 k && leb k 8) refl refl (λ k h. rw (lt-leb k 8 (omega arith)) (and-false (leb 7 k)))

pub restriction-kind : (k : ℕ) → is_restriction k ≡ true → (k ≡ 7) ⊎ (k ≡ 8)
restriction-kind k e = at (ℕ_discrete k 7)
  where
    both : (leb 7 k && leb k 8) ≡ true
    both = sym (restriction_range k) ∙ e

    at : Dec (k ≡ 7) → (k ≡ 7) ⊎ (k ≡ 8)
    at (yes q) = inl q
    at (no q) = inr (omega
        (arith, leb-true 7 k (both_left (leb 7 k) (leb k 8) both), leb-true k 8 (both_right (leb 7 k) (leb k 8) both)))

pub atom_range : (k : ℕ) → is_atom k ≡ (eqb k 3 || (leb 7 k && leb k 8))
atom_range =
    class_range are_atoms (λ k. eqb k 3 || (leb 7 k && leb k 8)) refl refl
    (λ k h. rw (ne_eqb k 3 (λ e. omega arith), lt-leb k 8 (omega arith)) (and-false (leb 7 k)))

pub name_range : (k : ℕ) → is_name k ≡ eqb k 3
name_range = class_range are_names (λ k. eqb k 3) refl refl (λ k h. ne_eqb k 3 (λ e. omega arith))

pub statement_range : (k : ℕ) → is_statement k ≡ eqb k 9
statement_range = class_range are_statements (λ k. eqb k 9) refl refl (λ k h. ne_eqb k 9 (λ e. omega arith))

pub term_no_statement : (k : ℕ) → is_term k ≡ true → is_statement k ≡ false
term_no_statement k = at (kind_of k).class
  where
    at : (c : Class) → are_terms c ≡ true → are_statements c ≡ false
    at Silent e = refl
    at Connective e = refl
    at Name e = refl
    at Restriction e = refl
    at Statement e = absurd (clash (cc))

pub statement-kind : (k : ℕ) → is_statement k ≡ true → k ≡ 9
statement-kind k e = eqb-true k 9 (sym (statement_range k) ∙ e)

-- Kind and A in one number: equal keys have equal parts.
pub key_same : (j k a l x y : ℕ) → j < 256 → k < 256 → x ≡ j + 65536 * a → y ≡ k + 65536 * l
    → eqb x y ≡ (eqb j k && eqb a l)
key_same j k a l x y h i p q = at (ℕ_discrete j k) (ℕ_discrete a l)
  where
    at : Dec (j ≡ k) → Dec (a ≡ l) → eqb x y ≡ (eqb j k && eqb a l)
    at (yes e) (yes f) = rw (eq-eqb x y (omega arith), eq-eqb j k e, eq-eqb a l f)
    at (yes e) (no f) = rw (ne_eqb x y (λ g. f (omega arith)), eq-eqb j k e, ne_eqb a l f)
    at (no e) f = rw (ne_eqb x y (λ g. e (omega arith)), ne_eqb j k e)
