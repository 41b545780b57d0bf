-- When a literal, and a column, holds in an interpretation.
use Rattle.std.specs.Prelude.{ℕ, ◌<◌, ◌≡◌, Bool, true, false, ◌&&◌, List, [], ◌∷◌, map, length}
use Rattle.std.specs.Bool.{beq}
use Rattle.types.specs.Meaning.{Interpretation, Element, belongs}
use Rattle.columns.specs.Literals.{SkolemTerm, constant, apply, Literal, concept, role, substitute}
use Rattle.columns.specs.Columns.{Column, Query, arguments, columns_at, column_at}

-- A literal about elements.
abbrev pub literal_holds : Interpretation → List ℕ → Literal ℕ → Bool
literal_holds I v (concept s i d) = beq s (belongs I v i d)
literal_holds I v (role s r d e) = beq s (I.roles r d e)

-- "read as their conjunction"
unfoldable pub literals_hold : Interpretation → List ℕ → List (Literal ℕ) → Bool
literals_hold I v [] = true
literals_hold I v (l ∷ c) = literal_holds I v l && literals_hold I v c

-- "the functions and a", each an element at each element.
pub record Choice (I : Interpretation) : Type 0 where
  pub function : ℕ → ℕ → ℕ
  pub chosen : ℕ
  pub stays : (i d : ℕ) → Element I d → Element I (function i d)
  pub inside : Element I chosen

-- The column of an owner where x and y are the elements d and e.
abbrev pub column_holds : (I : Interpretation) → Choice I → List ℕ → ℕ → ℕ → ℕ → Column → Bool
column_holds I k v owner d e c = literals_hold I v (map (substitute (arguments d e (k.function owner d) k.chosen)) c)

-- "no column holds anywhere"
abbrev pub NoneHolds : (I : Interpretation) → Choice I → List ℕ → Query → Type 0
NoneHolds I k v q =
    (owner n d e : ℕ) → Element I d → Element I e → n < length (columns_at v q owner)
    → column_holds I k v owner d e (column_at v q owner n) ≡ false

-- "denies the query": an element of A is not in B.
pub record Denied (I : Interpretation) (v : List ℕ) (q : Query) : Type 0 where
  pub element : ℕ
  pub inside : Element I element
  pub first : belongs I v q.a element ≡ true
  pub second : belongs I v q.b element ≡ false

-- The element that a term stands for.
unfoldable pub value : {I : Interpretation} → Choice I → SkolemTerm → ℕ
value k constant = k.chosen
value k (apply i t) = k.function i (value k t)
