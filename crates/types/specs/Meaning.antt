-- Finite interpretations, what terms mean in them, and when they satisfy the statements.
use Rattle.std.specs.Prelude.{ℕ, ◌<◌, ◌≡◌, Bool, true, false, not, ◌&&◌, ◌||◌, List}
use Rattle.records.specs.Format.{record_at}
use Rattle.records.specs.Kinds.{Construct, none, top, bottom, name, negation, conjunction, disjunction, existential, universal}
use Rattle.records.specs.Kinds.{inclusion, construct_of}
use Rattle.records.specs.Finite.{any_below, all_below, in_record_order}
use Rattle.records.specs.Chain.{in_force}

-- "a set of elements for each name and a set of pairs for each role". The elements are the numbers below a bound that are
-- in the domain; a name goes by its record ("Each name record is a name of its own"), a role by its number.
pub record Interpretation : Type 0 where
  pub bound : ℕ
  pub domain : ℕ → Bool
  pub names : ℕ → ℕ → Bool
  pub roles : ℕ → ℕ → ℕ → Bool

pub record Element (I : Interpretation) (d : ℕ) : Type 0 where
  pub below : d < I.bound
  pub inside : I.domain d ≡ true

-- Kinds 7 and 8, a role and a filler, apart from the rest: source document 004's ∃r.B and ∀r.B.
pub data Restriction : Type 0 where
  some all : ℕ → ℕ → Restriction
  plain : Restriction

abbrev pub restriction_of : Construct → Restriction
restriction_of none = plain
restriction_of top = plain
restriction_of bottom = plain
restriction_of name = plain
restriction_of (negation a) = plain
restriction_of (conjunction a b) = plain
restriction_of (disjunction a b) = plain
restriction_of (existential r b) = some r b
restriction_of (universal r b) = all r b
restriction_of (inclusion a b) = plain

abbrev pub restriction_at : List ℕ → ℕ → Restriction
restriction_at v i = restriction_of (construct_of (record_at v i))

-- "top is all elements and bottom none; not, and, or are complement, intersection and union", at one element, or one type:
-- what a record says there, from what its operands say there and, for an atom, from its own truth. A statement says
-- that A is false or B true.
abbrev pub evaluate : Construct → Bool → (ℕ → Bool) → Bool
evaluate none atom operand = false
evaluate top atom operand = true
evaluate bottom atom operand = false
evaluate name atom operand = atom
evaluate (negation a) atom operand = not (operand a)
evaluate (conjunction a b) atom operand = operand a && operand b
evaluate (disjunction a b) atom operand = operand a || operand b
evaluate (existential r b) atom operand = atom
evaluate (universal r b) atom operand = atom
evaluate (inclusion a b) atom operand = not (operand a) || operand b

-- "some-role holds at d if a pair (d, e) has e in B; all-role holds if every such e is in B": an atom's truth at d, where
-- `extension` is what the earlier records mean.
abbrev pub atom_at : Interpretation → ℕ → Restriction → (ℕ → ℕ → Bool) → ℕ → Bool
atom_at I i plain extension d = I.names i d
atom_at I i (some r b) extension d = any_below (λ e. I.domain e && (I.roles r d e && extension b e)) I.bound
atom_at I i (all r b) extension d = all_below (λ e. not (I.domain e && I.roles r d e) || extension b e) I.bound

abbrev pub extension_rule : Interpretation → List ℕ → (ℕ → ℕ → Bool) → ℕ → ℕ → Bool
extension_rule I v extension i d =
    evaluate (construct_of (record_at v i)) (atom_at I i (restriction_at v i) extension d) (λ j. extension j d)

-- Whether element d belongs to term i: what terms mean, by source document 004, section 2.1.
unfoldable pub belongs : Interpretation → List ℕ → ℕ → ℕ → Bool
belongs I v i d = in_record_order (λ d. false) (extension_rule I v) i d

-- "one term lies within another if each of its elements belongs to the other, and two are equal if they have the same elements"
abbrev pub Within : Interpretation → List ℕ → ℕ → ℕ → Type 0
Within I v a b = (d : ℕ) → Element I d → belongs I v a d ≡ true → belongs I v b d ≡ true

abbrev pub Equal : Interpretation → List ℕ → ℕ → ℕ → Type 0
Equal I v a b = (d : ℕ) → Element I d → belongs I v a d ≡ belongs I v b d

-- A finite interpretation, which "has at least one element", that satisfies the statements: "A statement is satisfied if each
-- element of A is in B. The statements of a vocabulary .. are those on the chain."
pub record Model (I : Interpretation) (v : List ℕ) : Type 0 where
  pub inhabited : (d : ℕ) × Element I d
  pub satisfied : (i : ℕ) → in_force v i ≡ true → Within I v (record_at v i).a (record_at v i).b

-- In every finite interpretation satisfying the statements.
abbrev pub AlwaysEqual : List ℕ → ℕ → ℕ → Type 0
AlwaysEqual v a b = (I : Interpretation) → Model I v → Equal I v a b

abbrev pub AlwaysWithin : List ℕ → ℕ → ℕ → Type 0
AlwaysWithin v a b = (I : Interpretation) → Model I v → Within I v a b
