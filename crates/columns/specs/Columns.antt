-- The columns of each owner.
use Rattle.std.specs.Prelude.{ℕ, zero, suc, Bool, true, false, cond, not, ◌||◌, List, [], ◌∷◌, map, get_or}
use Rattle.records.specs.Format.{record_at}
use Rattle.records.specs.Kinds.{Construct, none, top, bottom, name, negation, conjunction, disjunction, existential, universal}
use Rattle.records.specs.Kinds.{inclusion, construct_of, is_statement}
use Rattle.records.specs.Chain.{in_force}
use Rattle.columns.specs.declared.query.Query as code
use Rattle.columns.specs.Literals.{SkolemTerm, constant, apply, Literal, concept, role, substitute}

-- What a column speaks of: x, y, fi(x) with its owner's function, and a.
pub data Argument : Type 0 where
  x y fx a : Argument

-- "A column is a list of literals, positions from 0, read as their conjunction; equal literals at two positions stay two".
abbrev pub Column : Type 0
Column = List (Literal Argument)

-- Ci and ¬Ci, r and ¬r
abbrev pub is : ℕ → Argument → Literal Argument
is i t = concept true i t

abbrev pub is_not : ℕ → Argument → Literal Argument
is_not i t = concept false i t

abbrev pub joined : ℕ → Argument → Argument → Literal Argument
joined r t u = role true r t u

abbrev pub not_joined : ℕ → Argument → Argument → Literal Argument
not_joined r t u = role false r t u

-- The list of the paper, kind by kind: the columns of record i.
abbrev pub columns_of : ℕ → Construct → List Column
columns_of i none = []
columns_of i top = (is_not i x ∷ []) ∷ []
columns_of i bottom = (is i x ∷ []) ∷ []
columns_of i name = []
columns_of i (negation j) = (is i x ∷ is j x ∷ []) ∷ (is_not i x ∷ is_not j x ∷ []) ∷ []
columns_of i (conjunction j k) =
    (is i x ∷ is_not j x ∷ []) ∷ (is i x ∷ is_not k x ∷ []) ∷ (is_not i x ∷ is j x ∷ is k x ∷ []) ∷ []
columns_of i (disjunction j k) =
    (is_not i x ∷ is j x ∷ []) ∷ (is_not i x ∷ is k x ∷ []) ∷ (is i x ∷ is_not j x ∷ is_not k x ∷ []) ∷ []
columns_of i (existential r j) =
    (is i x ∷ not_joined r x fx ∷ []) ∷ (is i x ∷ is_not j fx ∷ []) ∷ (is_not i x ∷ joined r x y ∷ is j y ∷ []) ∷ []
columns_of i (universal r j) =
    (is_not i x ∷ not_joined r x fx ∷ []) ∷ (is_not i x ∷ is j fx ∷ []) ∷ (is i x ∷ joined r x y ∷ is_not j y ∷ []) ∷ []
columns_of i (inclusion j k) = (is j x ∷ is_not k x ∷ []) ∷ []

-- What is asked: whether term A lies within term B.
abbrev pub Query : Type 0
Query = code.Query

abbrev pub within : ℕ → ℕ → Query
within m n = record { a = m; b = n }

-- "Query "A within B", owner 0: {¬CA(a)}; {CB(a)}."
abbrev pub query_columns : Query → List Column
query_columns q = (is_not q.a a ∷ []) ∷ (is q.b a ∷ []) ∷ []

-- Whether record i may have columns: a term always, a statement in force ("9, chained").
abbrev pub states : List ℕ → ℕ → Bool
states v i = not (is_statement (record_at v i).kind) || in_force v i

-- "An owner's columns are numbered from 0 as listed."
unfoldable pub columns_at : List ℕ → Query → ℕ → List Column
columns_at v q zero = query_columns q
columns_at v q (suc i) = cond (states v (suc i)) (columns_of (suc i) (construct_of (record_at v (suc i)))) []

-- Column n of an owner; one that does not exist has no positions.
abbrev pub column_at : List ℕ → Query → ℕ → ℕ → Column
column_at v q owner n = get_or (columns_at v q owner) n []

-- Whether y stands in a column.
abbrev pub is_y : Argument → Bool
is_y x = false
is_y y = true
is_y fx = false
is_y a = false

abbrev pub mentions_y : Literal Argument → Bool
mentions_y (concept s i t) = is_y t
mentions_y (role s r t u) = is_y t || is_y u

unfoldable pub takes_y : Column → Bool
takes_y [] = false
takes_y (l ∷ c) = mentions_y l || takes_y c

-- What the arguments stand for where x and y are given.
abbrev pub arguments : {A : Type 0} → A → A → A → A → Argument → A
arguments tx ty tf ta x = tx
arguments tx ty tf ta y = ty
arguments tx ty tf ta fx = tf
arguments tx ty tf ta a = ta

-- The instance of an owner's column at two terms.
abbrev pub instance_at : ℕ → SkolemTerm → SkolemTerm → Column → List (Literal SkolemTerm)
instance_at owner tx ty c = map (substitute (arguments tx ty (apply owner tx) constant)) c
