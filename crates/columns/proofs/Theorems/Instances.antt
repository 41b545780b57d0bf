-- What the literals of an instance say of the elements that its terms stand for.
--   value-element    a term stands for an element
--   instance_value   an instance's literals say what the column's do at those elements
--   instance_false   where no column holds, no instance does
-- Assumes nothing.
use Prim.Native.Nat.{ℕ, ◌<◌}
use mathlib.Core.Path.{◌≡◌, refl, ap, ap₂, fun_ext, ◌∙◌}
use mathlib.Core.Bool.{false}
use mathlib.Core.List.{List, map, map-map}
use lib.ListN.{length}
use Rattle.types.specs.Meaning.{Interpretation, Element}
use Rattle.columns.specs.Literals.{SkolemTerm, constant, apply, Literal, concept, role, substitute}
use Rattle.columns.specs.Columns.{Argument, x, y, fx, a, Column, Query, arguments, columns_at, column_at, instance_at}
use Rattle.columns.specs.Holding.{literals_hold, Choice, NoneHolds, value}

module _ (I : Interpretation) (k : Choice I) where
  value-element : (t : SkolemTerm) → Element I (value k t)
  unfolding value
  value-element constant = k.inside
  value-element (apply i t) = k.stays i (value k t) (value-element t)

  module _ (owner : ℕ) (t u : SkolemTerm) where
    -- the owner's column at the elements of t and u
    abbrev elements : Argument → ℕ
    elements = arguments (value k t) (value k u) (k.function owner (value k t)) k.chosen

    abbrev terms : Argument → SkolemTerm
    terms = arguments t u (apply owner t) constant

    argument_value : (w : Argument) → value k (terms w) ≡ elements w
    unfolding value
    argument_value x = refl
    argument_value y = refl
    argument_value fx = refl
    argument_value a = refl

    literal_value : (l : Literal Argument) → substitute (value k) (substitute terms l) ≡ substitute elements l
    literal_value (concept s i w) = ap (concept s i) (argument_value w)
    literal_value (role s r w z) = ap₂ (role s r) (argument_value w) (argument_value z)

    instance_value : (c : Column) → map (substitute (value k)) (instance_at owner t u c) ≡ map (substitute elements) c
    instance_value c =
        map-map (substitute (value k)) (substitute terms) c
        ∙ ap (λ (f : Literal Argument → Literal ℕ). map f c) (fun_ext literal_value)

    pub instance_false : (v : List ℕ) (q : Query) → NoneHolds I k v q → (n : ℕ) → n < length (columns_at v q owner)
        → literals_hold I v (map (substitute (value k)) (instance_at owner t u (column_at v q owner n))) ≡ false
    instance_false v q none n h =
        ap (literals_hold I v) (instance_value (column_at v q owner n))
        ∙ none owner n (value k t) (value k u) (value-element t) (value-element u) h
