-- A column at codes, as numbers, corresponds to the column at the terms that the codes stand for.
--   Denotes                       a number is that of a literal at codes, which denotes a literal about terms
--   about_constant                a literal about the constant
--   literal_means, column-means   a literal, and a column, at codes and at their terms
--   query-means                   a query column, which speaks of a alone
--   used_denotes                  the column of an extension, where row 18 passed
-- Assumes nothing.
use Prim.Native.Nat.{ℕ, zero, suc, ◌≤◌, ◌<◌}
use native.Mathlib.Omega.{arith}
use mathlib.Core.Path.{◌≡◌, refl, sym, ap, ap₂}
use mathlib.Core.Bool.{Bool, true, false}
use mathlib.Core.List.{List, [], ◌∷◌, map}
use Rattle.records.proofs.Theorems.Accepted.{AcceptedFacts}
use Rattle.records.proofs.Laws.Lists.{All}
use Rattle.columns.specs.Literals.{SkolemTerm, constant, apply, Literal, concept, role, substitute}
use Rattle.columns.specs.Columns.{Argument, x, y, fx, a, Column, columns_at, column_at, arguments, instance_at}
use Rattle.columns.specs.Code.Packed.{packed, packed_at, predicate_limit}
use Rattle.scripts.specs.Steps.{Extension, extension, extension_by}
use Rattle.scripts.specs.Format.{entries, query_of, term_at}
use Rattle.scripts.specs.Form.{step_fits}
use Rattle.scripts.specs.Calculus.{used_column}
use Rattle.scripts.specs.Code.Codes.{origin, code_of, code_at, code_term}
use Rattle.scripts.specs.Code.Numbered.{used_numbers}
use Rattle.scripts.proofs.Theorems.Form.{KeepsForm}
use Rattle.scripts.proofs.Refinement.Terms.{code_zero}
use Rattle.scripts.proofs.Refinement.Literals.{Code, ValidLiteral, zero_code, Small, column-small}
use Rattle.scripts.proofs.Refinement.Extensions.{Extends, extends, term_coded, second_coded, apply_coded}
use Rattle.scripts.proofs.Laws.Correspondence.{Pairs}

pub record Denotes (s : List ℕ) (n : ℕ) (l : Literal SkolemTerm) : Type 0 where
  pub literal : Literal ℕ
  pub valid : ValidLiteral s literal
  pub number : n ≡ packed literal
  pub denoted : l ≡ substitute (code_term s) literal

pub about_constant : (s : List ℕ) (b : Bool) (i : ℕ) → i < predicate_limit
    → Denotes s (packed (concept b i 0)) (concept b i constant)
about_constant s b i h =
    record {
      literal = concept b i 0;
      valid = (h, (zero_code s).0, (zero_code s).1);
      number = refl;
      denoted = ap (concept b i) (sym (code_zero s));
    }

-- σ gives each argument its code, τ the term that the code stands for.
module _ (s : List ℕ) (σ : Argument → ℕ) (τ : Argument → SkolemTerm) (codes : (w : Argument) → Code s (σ w))
    (stands : (w : Argument) → code_term s (σ w) ≡ τ w) where
  literal_means : (l : Literal Argument) → Small l → Denotes s (packed (substitute σ l)) (substitute τ l)
  literal_means (concept b i t) h =
      record {
        literal = concept b i (σ t);
        valid = (h, (codes t).0, (codes t).1);
        number = refl;
        denoted = ap (concept b i) (sym (stands t));
      }
  literal_means (role b r t u) h =
      record {
        literal = role b r (σ t) (σ u);
        valid = (h, (codes t).0, (codes u).0, (codes t).1, (codes u).1);
        number = refl;
        denoted = ap₂ (role b r) (sym (stands t)) (sym (stands u));
      }

  column-means : (c : Column) → All Small c → Pairs (Denotes s) (map (λ l. packed (substitute σ l)) c) (map (substitute τ) c)
  column-means [] h = tt
  column-means (l ∷ c) h = (literal_means l h.0, column-means c h.1)

module _ (v s : List ℕ) (good : AcceptedFacts v) (f : KeepsForm v s) where
  pub query-means : (n cx cy cf : ℕ) (tx ty : SkolemTerm)
      → Pairs (Denotes s) (packed_at cx cy cf (column_at v (query_of s) 0 n)) (instance_at 0 tx ty (column_at v (query_of s) 0 n))
  unfolding columns_at
  query-means zero cx cy cf tx ty =
      (about_constant s false (query_of s).a (omega (arith, f.query.0.0, good.sized.most)), tt)
  query-means (suc zero) cx cy cf tx ty =
      (about_constant s true (query_of s).b (omega (arith, f.query.1.0, good.sized.most)), tt)
  query-means (suc (suc n)) cx cy cf tx ty = tt

  record_means : (e : Extension ℕ) → 0 < e.owner → Extends v s e
      → Pairs (Denotes s) (used_numbers v s e) (used_column v (query_of s) (extension_by (term_at s) e))
  record_means e l t =
      column-means s (arguments cx cy cf 0) (arguments tx (term_at s e.second) (apply e.owner tx) constant) codes stands
      (column_at v (query_of s) e.owner e.column) (column-small v s good f e.owner e.column)
    where
      cx : ℕ
      cx = code_at s e.first

      cy : ℕ
      cy = code_at s e.second

      cf : ℕ
      cf = code_of e.owner (origin s e.first)

      tx : SkolemTerm
      tx = term_at s e.first

      codes : (w : Argument) → Code s (arguments cx cy cf 0 w)
      codes x = (term_coded v s good f e.first t.first).code
      codes y = (second_coded v s good f e.second t.second).code
      codes fx = (apply_coded v s good f e.owner e.first l t.small t.first).code
      codes a = zero_code s

      stands : (w : Argument)
          → code_term s (arguments cx cy cf 0 w) ≡ arguments tx (term_at s e.second) (apply e.owner tx) constant w
      stands x = (term_coded v s good f e.first t.first).stands
      stands y = (second_coded v s good f e.second t.second).stands
      stands fx = (apply_coded v s good f e.owner e.first l t.small t.first).stands
      stands a = code_zero s

  used_at : (owner n : ℕ) (t u p : ℕ)
      → let e : Extension ℕ = record { owner = owner; column = n; first = t; second = u; position = p } in
      Extends v s e → Pairs (Denotes s) (used_numbers v s e) (used_column v (query_of s) (extension_by (term_at s) e))
  used_at zero n t u p h = query-means n (code_at s t) (code_at s u) (code_of 0 (origin s t)) (term_at s t) (term_at s u)
  used_at (suc owner) n t u p h = record_means _ (omega arith) h

  pub used_denotes : (i : ℕ) (e : Extension ℕ) → i ≤ entries s → step_fits v s i (extension e) ≡ true
      → Pairs (Denotes s) (used_numbers v s e) (used_column v (query_of s) (extension_by (term_at s) e))
  used_denotes i e h fits = used_at e.owner e.column e.first e.second e.position (extends v s good f i e h fits)
