-- The columns of an owner, by the tests that find them.
--   columns_record, columns_silent, columns_past   a record that states something, one that does not, none
--   columns_found                                  the first two by the test
-- Assumes nothing.
use Prim.Native.Nat.{ℕ, zero, suc, ◌≤◌}
use mathlib.Core.Path.{◌≡◌, refl, sym, ◌∙◌}
use mathlib.Core.Bool.{Bool, true, false}
use mathlib.Core.List.{List, []}
use Rattle.records.specs.Format.{record_at, count}
use Rattle.records.specs.Kinds.{kind_of, construct_of}
use Rattle.records.specs.declared.fields.Record.{Record}
use Rattle.records.proofs.Theorems.Accepted.{AcceptedFacts}
use Rattle.records.proofs.Theorems.Constructs.{record_past}
use Rattle.columns.specs.Columns.{Query, columns_of, states, columns_at}
use Rattle.std.specs.Bool.{then_some}
use Rattle.columns.specs.Code.Kept.{columns_given}

module _ (v : List ℕ) (q : Query) where
  pub columns_record : (i : ℕ) → (i ≡ 0 → ⊥) → states v i ≡ true → columns_at v q i ≡ columns_of i (construct_of (record_at v i))
  unfolding columns_at
  columns_record zero n e = absurd (n refl)
  columns_record (suc i) n e = rw e

  pub columns_silent : (i : ℕ) → (i ≡ 0 → ⊥) → states v i ≡ false → columns_at v q i ≡ []
  unfolding columns_at
  columns_silent zero n e = absurd (n refl)
  columns_silent (suc i) n e = rw e

  pub columns_past : AcceptedFacts v → (i : ℕ) → (i ≡ 0 → ⊥) → count v ≤ i → columns_at v q i ≡ []
  unfolding kind_of
  columns_past good i n h =
      let past : (record_at v i).kind ≡ 0 = record_past v i good.sized h in
      columns_record i n (rw past) ∙ rw past

  pub columns_found : (i : ℕ) → (i ≡ 0 → ⊥) → (stating : Bool) (r : Record) → stating ≡ states v i → r ≡ record_at v i
      → columns_at v q i ≡ columns_given i (then_some stating r)
  columns_found i n true r e f = rw f (columns_record i n (sym e))
  columns_found i n false r e f = columns_silent i n (sym e)
