-- What the call answers and leaves, by the check that decides.
--   size_rows                             rows 11, 12 and 26
--   Called                               the answer and the lent bytes are those of the classification
--   refused-vocabulary, refused_sizes    a check refuses: nothing is written
--   sizes_passed, sizes_settleable       what the checks tell where all pass
--   tabulated_call                       the answer and the bytes then
-- Assumes nothing.
use Prim.Native.Nat.{ℕ}
use mathlib.Core.Path.{◌≡◌, sym, ap, ◌∙◌}
use mathlib.Core.List.{List, ◌++◌}
use lib.ListN.{length, drop}
use Rattle.records.specs.Outcome.{Outcome, Check, accepted, refused, pass, ◌then◌}
use Rattle.records.specs.Check.{vocabulary_check}
use Rattle.records.specs.Atoms.{atoms}
use Rattle.records.proofs.Laws.Checks.{then_assoc}
use Rattle.records.proofs.Theorems.Bounds.{vocabulary-count}
use Rattle.types.specs.declared.answers.Counts.{Counts}
use Rattle.types.specs.Comparison.{size_check, counts, bitmap_bytes}
use Rattle.types.specs.Bitmap.{bitmap, written}
use Rattle.types.specs.Code.Settling.{Settleable}
use Rattle.taxonomy.specs.Taxonomy.{taxonomy_bytes, taxonomy, table_check, classification, tabulated}
use Rattle.taxonomy.proofs.Theorems.Answers.{Answered, answered}

module _ (v lent room : List ℕ) where
  abbrev outcome : Outcome Counts
  outcome = classification v (length lent) (length room)

  -- Rows 11, 12 and 26.
  abbrev pub size_rows : Check
  size_rows = size_check (atoms v) (length lent) then table_check (length room)

  in_order : outcome ≡ (vocabulary_check v then size_rows then accepted (counts v))
  unfolding classification
  in_order =
      ap (λ (o : Outcome Counts). vocabulary_check v then o)
      (sym (then_assoc (size_check (atoms v) (length lent)) (table_check (length room)) (accepted (counts v))))

  -- What the call promises of its answer and of the bytes it leaves.
  abbrev pub Called : Outcome Counts → List ℕ → List ℕ → Type 0
  Called answer first second = (answer ≡ outcome) × ((first ≡ written outcome v lent) × (second ≡ tabulated outcome v room))

  refuses : (n p : ℕ) → outcome ≡ refused n p → Called (refused n p) lent room
  refuses n p e = (sym e, (rw e, rw e))

  pub refused-vocabulary : (n p : ℕ) → refused n p ≡ vocabulary_check v → Called (refused n p) lent room
  refused-vocabulary n p e = refuses n p (in_order ∙ rw (← e))

  module _ (m : ℕ) (accepts : accepted m ≡ vocabulary_check v) where
    pub refused_sizes : (n p : ℕ) → refused n p ≡ size_rows → Called (refused n p) lent room
    refused_sizes n p e = refuses n p (in_order ∙ rw (← accepts, ← e))

    module _ (fits : pass ≡ size_rows) where
      answers : outcome ≡ accepted (counts v)
      answers = in_order ∙ rw (← accepts, ← fits)

      pub sizes_passed : Answered v (length lent) (length room) (counts v)
      sizes_passed = answered v (length lent) (length room) (counts v) answers

      pub sizes_settleable : (k : ℕ) → k ≡ atoms v → Settleable v k
      sizes_settleable k e =
          record {
            accepts = sym accepts ∙ ap (λ (n : ℕ). accepted n) (vocabulary-count v m (sym accepts));
            few = sizes_passed.few;
            counts = e;
          }

      pub tabulated_call : (c : Counts) (first second : List ℕ) → c ≡ counts v
          → first ≡ bitmap v ++ drop bitmap_bytes lent → second ≡ taxonomy v ++ drop taxonomy_bytes room
          → Called (accepted c) first second
      tabulated_call c first second h w t = (rw h (sym answers), (w ∙ rw answers, t ∙ rw answers))
