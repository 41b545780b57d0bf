-- Values worked out in record order.
--   Local      a rule that looks at earlier values only, at record i
--   in_order   then the value is what the rule makes of the values
-- Assumes nothing.
use Prim.Native.Nat.{ℕ, zero, suc, ◌<◌}
use native.Mathlib.Omega.{arith}
use mathlib.Core.Path.{◌≡◌}
use Rattle.records.specs.Finite.{unrolled, in_record_order}

module _ {A : Type 0} (default : A) (rule : (ℕ → A) → ℕ → A) where
  abbrev pub Local : Type 0
  Local = (i : ℕ) (f g : ℕ → A) → ((j : ℕ) → j < i → f j ≡ g j) → rule f i ≡ rule g i

  -- more turns than the record's number change nothing
  enough : Local → (n m i : ℕ) → i < n → i < m → unrolled default rule n i ≡ unrolled default rule m i
  unfolding unrolled
  enough local zero m i h k = absurd (omega arith)
  enough local (suc n) zero i h k = absurd (omega arith)
  enough local (suc n) (suc m) i h k =
      local i (unrolled default rule n) (unrolled default rule m) (λ j l. enough local n m j (omega arith) (omega arith))

  pub in_order : Local → (i : ℕ) → in_record_order default rule i ≡ rule (in_record_order default rule) i
  unfolding unrolled
  in_order local i =
      local i (unrolled default rule i) (in_record_order default rule) (λ j l. enough local i (suc j) j l (omega arith))
