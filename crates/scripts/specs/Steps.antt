-- Steps of a derivation, whatever their terms are: written out, or the numbers of their records.
use Rattle.std.specs.Prelude.{ℕ}

-- An extension uses an owner's column at the terms for x and y, and connects the literal at a position.
pub record Extension (A : Type 0) : Type 0 where
  pub owner : ℕ
  pub column : ℕ
  pub first : A
  pub second : A
  pub position : ℕ

-- A step: start with a query column, extension, reduction against a frame.
pub data Step (A : Type 0) : Type 0 where
  start : ℕ → Step A
  extension : Extension A → Step A
  reduction : ℕ → Step A

-- The same with other terms in their place.
abbrev pub extension_by : {A B : Type 0} → (A → B) → Extension A → Extension B
extension_by σ e =
    record {
      owner = e.owner;
      column = e.column;
      first = σ e.first;
      second = σ e.second;
      position = e.position;
    }

abbrev pub step_by : {A B : Type 0} → (A → B) → Step A → Step B
step_by σ (start n) = start n
step_by σ (extension e) = extension (extension_by σ e)
step_by σ (reduction f) = reduction f
