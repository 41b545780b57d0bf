-- Literals, and terms written out.
use Rattle.std.specs.Prelude.{ℕ, Bool, true, false, not, ◌&&◌, eqb}
use Rattle.std.specs.Bool.{beq}

-- "terms are written out": "the constant a", "the term fi(t)".
pub data SkolemTerm : Type 0 where
  constant : SkolemTerm
  apply : ℕ → SkolemTerm → SkolemTerm

-- A literal, positive (`true`) or negated, about what A stands for: "Ci(x) says that x is in term i", r(x,y) that x and y are
-- joined by role r.
pub data Literal (A : Type 0) : Type 0 where
  concept : Bool → ℕ → A → Literal A
  role : Bool → ℕ → A → A → Literal A

abbrev pub complement : {A : Type 0} → Literal A → Literal A
complement (concept s i t) = concept (not s) i t
complement (role s r t u) = role (not s) r t u

-- The literal about what a substitution puts in.
abbrev pub substitute : {A B : Type 0} → (A → B) → Literal A → Literal B
substitute σ (concept s i t) = concept s i (σ t)
substitute σ (role s r t u) = role s r (σ t) (σ u)

-- "equal terms": written out, they are the same all the way to the constant.
unfoldable pub same_term : SkolemTerm → SkolemTerm → Bool
same_term constant constant = true
same_term constant (apply j u) = false
same_term (apply i t) constant = false
same_term (apply i t) (apply j u) = eqb i j && same_term t u

-- Whether two literals are complements, "equal terms included".
unfoldable pub complementary : Literal SkolemTerm → Literal SkolemTerm → Bool
complementary (concept s i t) (concept p j u) = not (beq s p) && (eqb i j && same_term t u)
complementary (concept s i t) (role p r u w) = false
complementary (role s r t u) (concept p i w) = false
complementary (role s r t u) (role p q w z) = not (beq s p) && (eqb r q && (same_term t w && same_term u z))

-- what stands where a list has no literal
abbrev pub no_literal : Literal SkolemTerm
no_literal = concept false 0 constant
