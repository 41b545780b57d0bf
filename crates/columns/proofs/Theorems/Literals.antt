-- Literals and their complements, and terms written out.
--   same_term-true, same_term_refl   the test of equal terms
--   complementary-true             of two literals that the test calls complements, the first is the complement of the second
--   complementary-complement       a literal's complement passes the test
-- Assumes nothing.
use mathlib.Core.Path.{◌≡◌, refl, ap₂}
use mathlib.Core.Bool.{Bool, true, false, beq, not, ◌&&◌}
use lib.Dec.{eqb}
use borrow.Author.Tests.{eqb-true, eq-eqb}
use Rattle.records.proofs.Laws.Tests.{clash, both_left, both_right, both_true}
use Rattle.columns.specs.Literals.{SkolemTerm, constant, apply, Literal, concept, role, complement, same_term}
use Rattle.columns.specs.Literals.{complementary}

pub same_term-true : (t u : SkolemTerm) → same_term t u ≡ true → t ≡ u
unfolding same_term
same_term-true constant constant e = refl
same_term-true constant (apply j u) e = absurd (clash (cc))
same_term-true (apply i t) constant e = absurd (clash (cc))
same_term-true (apply i t) (apply j u) e =
    ap₂ apply (eqb-true i j (both_left (eqb i j) (same_term t u) e)) (same_term-true t u (both_right (eqb i j) (same_term t u) e))

pub same_term_refl : (t : SkolemTerm) → same_term t t ≡ true
unfolding same_term
same_term_refl constant = refl
same_term_refl (apply i t) = both_true (eqb i i) (same_term t t) (eq-eqb i i refl) (same_term_refl t)

-- two signs that differ
opposite : (s p : Bool) → not (beq s p) ≡ true → s ≡ not p
opposite true true e = absurd (clash (cc))
opposite true false e = refl
opposite false true e = refl
opposite false false e = absurd (clash (cc))

not_opposite : (s : Bool) → not (beq (not s) s) ≡ true
not_opposite true = refl
not_opposite false = refl

pub complementary-true : (l m : Literal SkolemTerm) → complementary l m ≡ true → l ≡ complement m
unfolding complementary
complementary-true (concept s i t) (concept p j u) e =
    let rest = both_right (not (beq s p)) (eqb i j && same_term t u) e in
    let sign = opposite s p (both_left (not (beq s p)) (eqb i j && same_term t u) e) in
    let number = eqb-true i j (both_left (eqb i j) (same_term t u) rest) in
    let term = same_term-true t u (both_right (eqb i j) (same_term t u) rest) in
    rw (sign, number, term)
complementary-true (concept s i t) (role p r u w) e = absurd (clash (cc))
complementary-true (role s r t u) (concept p i w) e = absurd (clash (cc))
complementary-true (role s r t u) (role p q w z) e =
    let rest = both_right (not (beq s p)) (eqb r q && (same_term t w && same_term u z)) e in
    let sign = opposite s p (both_left (not (beq s p)) (eqb r q && (same_term t w && same_term u z)) e) in
    let number = eqb-true r q (both_left (eqb r q) (same_term t w && same_term u z) rest) in
    let terms = both_right (eqb r q) (same_term t w && same_term u z) rest in
    let first = same_term-true t w (both_left (same_term t w) (same_term u z) terms) in
    let second = same_term-true u z (both_right (same_term t w) (same_term u z) terms) in
    rw (sign, number, first, second)

pub complementary-complement : (m : Literal SkolemTerm) → complementary (complement m) m ≡ true
unfolding complementary
complementary-complement (concept s i t) = rw (not_opposite s, eq-eqb i i refl, same_term_refl t)
complementary-complement (role s r t u) = rw (not_opposite s, eq-eqb r r refl, same_term_refl t, same_term_refl u)
