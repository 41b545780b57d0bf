-- Literals as numbers: those at codes, and what they say once the codes' terms are written out.
--   Code, zero_code, ValidLiteral         a code of 20 bits; a literal whose predicate and codes have room in its number
--   same_sign, two_signs, opposed_signs   numbers that have the sign in bit 0
--   packed_body, opposed_bodies           a literal's number as its sign and the rest
--   concept-same, role_same, other_body   when the rest is equal
--   opposed-complementary                 the numbers of two such literals differ in the sign alone if they are complements
--   small_columns, columns_small          the predicates of an owner's columns have 9 bits
--   owner-below                           so has the owner of a listed column
--   column-small                          so have the predicates of a column
-- Assumes nothing.
use Prim.Native.Nat.{ℕ, zero, suc, ◌+◌, ◌*◌, ◌/◌, ◌%◌, ◌^◌, ◌≤◌, ◌<◌}
use native.Mathlib.Omega.{arith}
use native.Mathlib.Decide.{ℕ_discrete, dec_lt}
use mathlib.Core.Path.{◌≡◌, refl, sym, ap, ap₂, subst, ◌∙◌}
use mathlib.Core.Bool.{Bool, true, false, beq, not, ◌&&◌, and-false}
use mathlib.Core.List.{List, [], ◌∷◌}
use mathlib.Core.Logic.{inl}
use lib.ListN.{length, get_or}
use lib.Dec.{eqb}
use borrow.Author.Tests.{eq-eqb, ne_eqb}
use Rattle.records.specs.Format.{record_at, count, role_count}
use Rattle.records.specs.Kinds.{Construct, none, top, bottom, name, negation, conjunction, disjunction, existential, universal}
use Rattle.records.specs.Kinds.{inclusion, construct_of}
use Rattle.records.proofs.Theorems.Accepted.{AcceptedFacts}
use Rattle.records.proofs.Laws.Lists.{All}
use Rattle.records.proofs.Theorems.Constructs.{Earlier, construct_earlier, RoleBelow, construct_role}
use Rattle.records.specs.Finite.{digit}
use Rattle.columns.specs.Literals.{Literal, concept, role, substitute, complementary}
use Rattle.columns.specs.Columns.{Argument, Column, columns_of, states, columns_at, column_at}
use Rattle.columns.specs.Code.Packed.{packed, term_limit, predicate_limit}
use Rattle.columns.proofs.Theorems.Owners.{columns_record, columns_silent, columns_past}
use Rattle.scripts.specs.Format.{query_of}
use Rattle.scripts.specs.Code.Codes.{code_term, opposed}
use Rattle.scripts.proofs.Theorems.Form.{KeepsForm}
use Rattle.scripts.proofs.Refinement.Terms.{Valid, code_same}

abbrev pub Code : List ℕ → ℕ → Type 0
Code s c = (c < term_limit) × Valid s c

abbrev pub ValidLiteral : List ℕ → Literal ℕ → Type 0
ValidLiteral s (concept b i t) = (i < predicate_limit) × (t < term_limit) × Valid s t
ValidLiteral s (role b r t u) = (r < predicate_limit) × (t < term_limit) × (u < term_limit) × Valid s t × Valid s u

-- numbers of the same sign, or of two signs, each sign being 0 or 1
same_sign : (d m n : ℕ) → d < 2 → opposed (d + 2 * m) (d + 2 * n) ≡ false
same_sign d m n h = at (ℕ_discrete m n)
  where
    at : Dec (m ≡ n) → opposed (d + 2 * m) (d + 2 * n) ≡ false
    at (yes e) = rw (eq-eqb (d + 2 * m) (d + 2 * n) (omega arith)) (and-false (eqb ((d + 2 * m) / 2) ((d + 2 * n) / 2)))
    at (no e) = rw (ne_eqb ((d + 2 * m) / 2) ((d + 2 * n) / 2) (λ q. e (omega arith)))

two_signs : (d e m n : ℕ) → d < 2 → e < 2 → (d ≡ e → ⊥) → opposed (d + 2 * m) (e + 2 * n) ≡ eqb m n
two_signs d e m n h k differ = at (ℕ_discrete m n)
  where
    at : Dec (m ≡ n) → opposed (d + 2 * m) (e + 2 * n) ≡ eqb m n
    at (yes q) =
        rw (
          eq-eqb ((d + 2 * m) / 2) ((e + 2 * n) / 2) (omega arith),
          ne_eqb (d + 2 * m) (e + 2 * n) (λ z. differ (omega arith)),
          eq-eqb m n q,
        )
    at (no q) = rw (ne_eqb ((d + 2 * m) / 2) ((e + 2 * n) / 2) (λ z. q (omega arith)), ne_eqb m n q)

opposed_signs : (b p : Bool) (m n : ℕ) → opposed (digit b + 2 * m) (digit p + 2 * n) ≡ (not (beq b p) && eqb m n)
opposed_signs true true m n = same_sign 1 m n (omega arith)
opposed_signs true false m n = two_signs 1 0 m n (omega arith) (omega arith) (λ z. omega arith)
opposed_signs false true m n = two_signs 0 1 m n (omega arith) (omega arith) (λ z. omega arith)
opposed_signs false false m n = same_sign 0 m n (omega arith)

-- a literal's number without its sign
abbrev concept_body : ℕ → ℕ → ℕ
concept_body i t = 2 * i + 1 + 2 ^ 11 * t

abbrev role_body : ℕ → ℕ → ℕ → ℕ
role_body r t u = 2 * r + 2 + 2 ^ 11 * t + 2 ^ 31 * u

abbrev body : Literal ℕ → ℕ
body (concept b i t) = concept_body i t
body (role b r t u) = role_body r t u

abbrev sign : Literal ℕ → Bool
sign (concept b i t) = b
sign (role b r t u) = b

packed_body : (l : Literal ℕ) → packed l ≡ digit (sign l) + 2 * body l
packed_body (concept b i t) = omega arith
packed_body (role b r t u) = omega arith

opposed_bodies : (l m : Literal ℕ) → opposed (packed l) (packed m) ≡ (not (beq (sign l) (sign m)) && eqb (body l) (body m))
opposed_bodies l m = ap₂ opposed (packed_body l) (packed_body m) ∙ opposed_signs (sign l) (sign m) (body l) (body m)

-- the lowest bits are the predicate's, the next the first argument's
concept-low : (i t : ℕ) → i < predicate_limit → concept_body i t % 2 ^ 11 ≡ 2 * i + 1
concept-low i t h = omega arith

role-low : (r t u : ℕ) → r < predicate_limit → role_body r t u % 2 ^ 11 ≡ 2 * r + 2
role-low r t u h = omega arith

role_middle : (r t u : ℕ) → r < predicate_limit → t < term_limit → role_body r t u / 2 ^ 11 % 2 ^ 20 ≡ t
role_middle r t u h k = let e : role_body r t u / 2 ^ 11 ≡ t + 2 ^ 20 * u = omega arith in rw e (omega arith)

concept-same : (i t j u : ℕ) → i < predicate_limit → j < predicate_limit
    → eqb (concept_body i t) (concept_body j u) ≡ (eqb i j && eqb t u)
concept-same i t j u h k = at (ℕ_discrete i j) (ℕ_discrete t u)
  where
    low : concept_body i t ≡ concept_body j u → 2 * i + 1 ≡ 2 * j + 1
    low q = sym (concept-low i t h) ∙ ap (λ (n : ℕ). n % 2 ^ 11) q ∙ concept-low j u k

    at : Dec (i ≡ j) → Dec (t ≡ u) → eqb (concept_body i t) (concept_body j u) ≡ (eqb i j && eqb t u)
    at (yes d) (yes e) = rw (eq-eqb (concept_body i t) (concept_body j u) (omega arith), eq-eqb i j d, eq-eqb t u e)
    at (yes d) (no e) = rw (ne_eqb (concept_body i t) (concept_body j u) (λ q. e (omega arith)), eq-eqb i j d, ne_eqb t u e)
    at (no d) e =
        rw (ne_eqb (concept_body i t) (concept_body j u) (λ q. d (omega (arith, low q))), ne_eqb i j d)

role_same : (r t u q w z : ℕ) → r < predicate_limit → t < term_limit → q < predicate_limit → w < term_limit
    → eqb (role_body r t u) (role_body q w z) ≡ (eqb r q && (eqb t w && eqb u z))
role_same r t u q w z h k l m = at (ℕ_discrete r q) (ℕ_discrete t w) (ℕ_discrete u z)
  where
    low : role_body r t u ≡ role_body q w z → 2 * r + 2 ≡ 2 * q + 2
    low e = sym (role-low r t u h) ∙ ap (λ (n : ℕ). n % 2 ^ 11) e ∙ role-low q w z l

    middle : role_body r t u ≡ role_body q w z → t ≡ w
    middle e = sym (role_middle r t u h k) ∙ ap (λ (n : ℕ). n / 2 ^ 11 % 2 ^ 20) e ∙ role_middle q w z l m

    at : Dec (r ≡ q) → Dec (t ≡ w) → Dec (u ≡ z) → eqb (role_body r t u) (role_body q w z) ≡ (eqb r q && (eqb t w && eqb u z))
    at (yes d) (yes e) (yes g) =
        rw (eq-eqb (role_body r t u) (role_body q w z) (omega arith), eq-eqb r q d, eq-eqb t w e, eq-eqb u z g)
    at (yes d) (yes e) (no g) =
        rw (ne_eqb (role_body r t u) (role_body q w z) (λ n. g (omega arith)), eq-eqb r q d, eq-eqb t w e, ne_eqb u z g)
    at (yes d) (no e) g =
        rw (ne_eqb (role_body r t u) (role_body q w z) (λ n. e (middle n)), eq-eqb r q d, ne_eqb t w e)
    at (no d) e g =
        rw (ne_eqb (role_body r t u) (role_body q w z) (λ n. d (omega (arith, low n))), ne_eqb r q d)

-- odd for a term, even for a role
other_body : (i t r u w : ℕ) → concept_body i t ≡ role_body r u w → ⊥
other_body i t r u w e = omega arith

module _ (v s : List ℕ) (good : AcceptedFacts v) (f : KeepsForm v s) where
  bodies_same : (l m : Literal ℕ) → ValidLiteral s l → ValidLiteral s m
      → (not (beq (sign l) (sign m)) && eqb (body l) (body m))
      ≡ complementary (substitute (code_term s) l) (substitute (code_term s) m)
  unfolding complementary
  bodies_same (concept b i t) (concept p j u) g h =
      rw (concept-same i t j u g.0 h.0, code_same v s good f t u g.2 h.2)
  bodies_same (concept b i t) (role p r u w) g h =
      rw (ne_eqb (concept_body i t) (role_body r u w) (other_body i t r u w)) (and-false (not (beq b p)))
  bodies_same (role b r t u) (concept p i w) g h =
      rw (ne_eqb (role_body r t u) (concept_body i w) (λ e. other_body i w r t u (sym e))) (and-false (not (beq b p)))
  bodies_same (role b r t u) (role p q w z) g h =
      rw (
        role_same r t u q w z g.0 g.1 h.0 h.1,
        code_same v s good f t w g.3 h.3,
        code_same v s good f u z g.4 h.4,
      )

  pub opposed-complementary : (l m : Literal ℕ) → ValidLiteral s l → ValidLiteral s m
      → opposed (packed l) (packed m) ≡ complementary (substitute (code_term s) l) (substitute (code_term s) m)
  opposed-complementary l m g h = opposed_bodies l m ∙ bodies_same l m g h

-- Predicates of 9 bits.
abbrev pub Small : Literal Argument → Type 0
Small (concept b i t) = i < predicate_limit
Small (role b r t u) = r < predicate_limit

abbrev AllSmall : List Column → Type 0
AllSmall cs = All (λ c. All Small c) cs

-- kinds that differ in signs alone have the same predicates: 5 and 6, 7 and 8
small_junction : (i j m : ℕ) → i < predicate_limit → (j < i) × (m < i) → AllSmall (columns_of i (conjunction j m))
small_junction i j m h e =
    let g : j < predicate_limit = omega (arith, e.0) in
    let d : m < predicate_limit = omega (arith, e.1) in
    ((h, (g, tt)), ((h, (d, tt)), ((h, (g, (d, tt))), tt)))

small-restriction : (i r j : ℕ) → i < predicate_limit → r < predicate_limit → j < i → AllSmall (columns_of i (existential r j))
small-restriction i r j h k e =
    let g : j < predicate_limit = omega arith in
    let d : r < predicate_limit = omega arith in
    ((h, (d, tt)), ((h, (g, tt)), ((h, (d, (g, tt))), tt)))

small_columns : (i n : ℕ) (c : Construct) → i < predicate_limit → n ≤ predicate_limit → Earlier i c → RoleBelow n c
    → AllSmall (columns_of i c)
small_columns i n none h k e l = tt
small_columns i n top h k e l = ((h, tt), tt)
small_columns i n bottom h k e l = ((h, tt), tt)
small_columns i n name h k e l = tt
small_columns i n (negation j) h k e l =
    let g : j < predicate_limit = omega (arith, e.0) in
    ((h, (g, tt)), ((h, (g, tt)), tt))
small_columns i n (conjunction j m) h k e l = small_junction i j m h (e.0, e.1.0)
small_columns i n (disjunction j m) h k e l = small_junction i j m h (e.0, e.1.0)
small_columns i n (existential r j) h k e l = small-restriction i r j h (omega (arith, l.0)) e.0
small_columns i n (universal r j) h k e l = small-restriction i r j h (omega (arith, l.0)) e.0
small_columns i n (inclusion j m) h k e l = ((omega (arith, e.0), (omega (arith, e.1.0), tt)), tt)

small_at : (cs : List Column) → AllSmall cs → (n : ℕ) → All Small (get_or cs n [])
small_at [] h n = tt
small_at (c ∷ cs) h zero = h.0
small_at (c ∷ cs) h (suc n) = small_at cs h.1 n

pub zero_code : (s : List ℕ) → Code s 0
zero_code s = (omega arith, inl refl)

module _ (v s : List ℕ) (good : AcceptedFacts v) (f : KeepsForm v s) where
  columns_small : (owner : ℕ) → AllSmall (columns_at v (query_of s) owner)
  unfolding columns_at
  columns_small zero =
      let first : (query_of s).a < predicate_limit = omega (arith, f.query.0.0, good.sized.most) in
      let second : (query_of s).b < predicate_limit = omega (arith, f.query.1.0, good.sized.most) in
      ((first, tt), ((second, tt), tt))
  columns_small (suc i) = at (dec_lt (suc i) (count v)) (states v (suc i)) refl
    where
      positive : suc i ≡ 0 → ⊥
      positive z = absurd (omega arith)

      at : Dec (suc i < count v) → (b : Bool) → states v (suc i) ≡ b → AllSmall (columns_at v (query_of s) (suc i))
      at (yes h) true e =
          subst AllSmall (sym (columns_record v (query_of s) (suc i) positive e))
          (small_columns (suc i) (role_count v) (construct_of (record_at v (suc i)))
          (omega (arith, good.sized.most))
          (omega (arith, good.roles))
          (construct_earlier v good (suc i))
          (construct_role v good (suc i) (omega arith) h))
      at (yes h) false e = subst AllSmall (sym (columns_silent v (query_of s) (suc i) positive e)) tt
      at (no h) b e = subst AllSmall (sym (columns_past v (query_of s) good (suc i) positive (omega arith))) tt

  -- the owner of a listed column
  pub owner-below : (owner n p : ℕ) → p < length (column_at v (query_of s) owner n) → owner < predicate_limit
  owner-below owner n p h = at (dec_lt owner (count v))
    where
      at : Dec (owner < count v) → owner < predicate_limit
      at (yes l) = omega (arith, good.sized.most)
      at (no l) =
          let past = columns_past v (query_of s) good owner (λ z. omega (arith, good.sized.least)) (omega arith) in
          let empty : length (column_at v (query_of s) owner n) ≡ 0 = rw past in
          absurd (omega arith)

  pub column-small : (owner n : ℕ) → All Small (column_at v (query_of s) owner n)
  column-small owner n = small_at (columns_at v (query_of s) owner) (columns_small owner) n
