-- The first record of a term. Of nothing but the terms of records: neither the form nor a vocabulary is needed.
--   origin-same                             records of one term have one origin
--   origin-least, origin-term, origin-is    the origin of a term record comes first, is of that term, and is an origin
--   origin_of, origin-own                   which record is a term's origin: an origin of that term; a record with none before it
-- Assumes nothing.
use Prim.Native.Nat.{ℕ, ◌≤◌, ◌<◌}
use native.Mathlib.Omega.{arith}
use native.Mathlib.Decide.{dec_lt}
use mathlib.Core.Path.{◌≡◌, sym, ap, ◌∙◌}
use mathlib.Core.Bool.{true}
use mathlib.Core.List.{List}
use Rattle.records.specs.Finite.{least}
use Rattle.records.proofs.Laws.Tests.{clash, both_left, both_right}
use Rattle.records.proofs.Laws.Below.{least-holds, least-before}
use Rattle.columns.specs.Literals.{SkolemTerm, same_term}
use Rattle.columns.proofs.Theorems.Literals.{same_term-true, same_term_refl}
use Rattle.scripts.specs.Format.{entry_at, entries, is_term, term_at}
use Rattle.scripts.specs.Code.Codes.{TermRecord, is_record_of, origin, IsOrigin}

module _ (s : List ℕ) where
  pub origin-same : (n m : ℕ) → term_at s n ≡ term_at s m → origin s n ≡ origin s m
  unfolding origin
  origin-same n m e = ap (λ (t : SkolemTerm). least (is_record_of s t) (entries s)) e

  module _ (n : ℕ) (t : TermRecord s n) where
    own_record : is_record_of s (term_at s n) n ≡ true
    own_record = rw t.term (same_term_refl (term_at s n))

    pub origin-least : origin s n ≤ n
    unfolding origin
    origin-least = at (dec_lt n (origin s n))
      where
        at : Dec (n < origin s n) → origin s n ≤ n
        at (yes h) =
            let misses = least-before (entries s) (is_record_of s (term_at s n)) n h in
            let holds = own_record in
            absurd (clash (cc))
        at (no h) = omega arith

    found : is_record_of s (term_at s n) (origin s n) ≡ true
    unfolding origin
    found = least-holds (entries s) (is_record_of s (term_at s n)) (omega (arith, origin-least, t.within))

    pub origin-term : term_at s (origin s n) ≡ term_at s n
    origin-term =
        let j = origin s n in
        same_term-true (term_at s j) (term_at s n) (both_right (is_term (entry_at s j).w0)
        (same_term (term_at s j) (term_at s n)) found)

    pub origin-is : IsOrigin s (origin s n)
    origin-is =
        let j = origin s n in
        record {
          term = record {
            within = omega (arith, origin-least, t.within);
            term = both_left (is_term (entry_at s j).w0) (same_term (term_at s j) (term_at s n)) found;
          };
          first = origin-same j n origin-term;
        }

    pub origin-own : ((j : ℕ) → j < n → IsOrigin s j → term_at s j ≡ term_at s n → ⊥) → origin s n ≡ n
    origin-own none = at (dec_lt (origin s n) n)
      where
        at : Dec (origin s n < n) → origin s n ≡ n
        at (yes h) = absurd (none (origin s n) h origin-is origin-term)
        at (no h) = omega (arith, origin-least)

  pub origin_of : (j n : ℕ) → IsOrigin s j → term_at s j ≡ term_at s n → origin s n ≡ j
  origin_of j n o e = sym (origin-same j n e) ∙ o.first
