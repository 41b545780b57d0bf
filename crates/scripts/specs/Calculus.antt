-- The connection calculus: derivations by start, extension and reduction, by source document 000, Definition 10.
use Rattle.std.specs.Prelude.{ℕ, suc, ◌-◌, ◌≤◌, ◌<◌, max, ◌≡◌, List, [], ◌∷◌, ◌++◌, length, get_or}
use Rattle.records.specs.Finite.{without}
use Rattle.columns.specs.Literals.{SkolemTerm, constant, Literal, complement, no_literal}
use Rattle.columns.specs.Columns.{Query, column_at, instance_at}
use Rattle.scripts.specs.Steps.{Extension, Step, start, extension, reduction}

-- The column that is used, C₂ of Definition 10; its literal at the position, L₂; and the others, C₂ \ {L₂}.
abbrev pub used_column : List ℕ → Query → Extension SkolemTerm → List (Literal SkolemTerm)
used_column v q e = instance_at e.owner e.first e.second (column_at v q e.owner e.column)

abbrev pub connected_literal : List ℕ → Query → Extension SkolemTerm → Literal SkolemTerm
connected_literal v q e = get_or (used_column v q e) e.position no_literal

abbrev pub remainder : List ℕ → Query → Extension SkolemTerm → List (Literal SkolemTerm)
remainder v q e = without e.position (used_column v q e)

-- The position exists in a listed column.
abbrev pub PositionExists : List ℕ → Query → Extension SkolemTerm → Type 0
PositionExists v q e = e.position < length (column_at v q e.owner e.column)

-- The path's literal in frame f, frames counted from the start; the path has the last frame's first.
abbrev pub on_path : List (Literal SkolemTerm) → ℕ → Literal SkolemTerm
on_path path f = get_or path (length path - suc f) no_literal

-- C, M, Path of Definition 10, where C is the column's open literals, in their order, and M the listed columns. Axiom: {} is
-- derived. Reduction: C ∪ {L₁}, where the complement of L₁ is on the path, from C. Extension: C ∪ {L₁}, where a column has
-- the complement L₂ of L₁, from C₂ \ {L₂} with L₁ on the path, and from C.
pub data Derivation (v : List ℕ) (q : Query) : List (Literal SkolemTerm) → List (Literal SkolemTerm) → Type 0 where
  ended : {path : List (Literal SkolemTerm)} → Derivation v q [] path
  reduced : {l : Literal SkolemTerm} {c path : List (Literal SkolemTerm)} (f : ℕ)
      → f < length path → on_path path f ≡ complement l
      → Derivation v q c path → Derivation v q (l ∷ c) path
  extended : {l : Literal SkolemTerm} {c path : List (Literal SkolemTerm)} (e : Extension SkolemTerm)
      → PositionExists v q e → connected_literal v q e ≡ complement l
      → Derivation v q (remainder v q e) (l ∷ path) → Derivation v q c path → Derivation v q (l ∷ c) path

-- Its steps, in the order in which they close goals: "The goal is always the first open literal of the last frame."
unfoldable pub steps : {v : List ℕ} {q : Query} {c path : List (Literal SkolemTerm)} → Derivation v q c path
    → List (Step SkolemTerm)
steps ended = []
steps (reduced f l p d) = reduction f ∷ steps d
steps (extended e l p above d) = extension e ∷ steps above ++ steps d

-- How many frames, the column's own and those above it, are ever open together.
unfoldable pub height : {v : List ℕ} {q : Query} {c path : List (Literal SkolemTerm)} → Derivation v q c path → ℕ
height ended = 0
height (reduced f l p d) = max 1 (height d)
height (extended e l p above d) = max (suc (height above)) (height d)

-- Query column n; "Start opens frame 0 with its column."
abbrev pub start_column : List ℕ → Query → ℕ → List (Literal SkolemTerm)
start_column v q n = instance_at 0 constant constant (column_at v q 0 n)

-- These steps are a derivation: start, with a query column and no path, then extensions and reductions. "At most 64 frames."
pub record Derives (v : List ℕ) (q : Query) (list : List (Step SkolemTerm)) : Type 0 where
  pub column : ℕ
  pub listed : column ≤ 1
  pub derivation : Derivation v q (start_column v q column) []
  pub same : list ≡ start column ∷ steps derivation
  pub frames : height derivation ≤ 64

-- The same figure where a check, the code or a law cites it by name.
abbrev pub frame_limit : ℕ
frame_limit = 64
