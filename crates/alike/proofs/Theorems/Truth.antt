-- Vocabularies that look alike have the same atoms, and the same truth of each record that may have columns.
--   rank_alike, atoms_alike, types_alike   the atoms, and so the types
--   term-states, silent_plain              a term may have columns; what may not is no restriction
--   states_alike                           which records may have columns
--   restriction_alike                      the restrictions
--   truth_alike                            truth, at a record that may have columns
--   SameTruth, restriction-truth           so at a restriction,
--   filler_truth                           and at its filler
-- Of a statement not in force nothing is said here: its truth may differ. Assumes nothing.
use Prim.Native.Nat.{ℕ, zero, suc, ◌^◌, ◌<◌}
use native.Mathlib.Omega.{arith}
use mathlib.Core.Path.{◌≡◌, refl, sym, ap, ◌∙◌}
use mathlib.Core.Bool.{Bool, true, false, not}
use mathlib.Core.List.{List}
use borrow.Author.Tests.{not-false}
use Rattle.records.specs.Format.{record_at, count}
use Rattle.records.specs.Kinds.{Construct, construct_of, is_term, is_statement}
use Rattle.records.specs.Chain.{in_force}
use Rattle.records.specs.Finite.{bit}
use Rattle.records.specs.Atoms.{rank, atoms}
use Rattle.records.proofs.Laws.Tests.{clash, either_left, unless_false}
use Rattle.records.proofs.Laws.Ranges.{term_no_statement, statement-kind}
use Rattle.records.proofs.Theorems.Accepted.{AcceptedFacts, Operand, Over, over-map}
use Rattle.records.proofs.Theorems.Constructs.{construct_over, construct_inclusion}
use Rattle.records.proofs.Theorems.Ranks.{rank_cong}
use Rattle.types.specs.Meaning.{plain, restriction_of, restriction_at, evaluate}
use Rattle.types.specs.Types.{types, truth}
use Rattle.types.proofs.Theorems.Truth.{evaluate-over, OverFiller, restriction-over, restricted, truth_eq}
use Rattle.columns.specs.Columns.{states}
use Rattle.alike.specs.Alike.{Alike}

module _ (v : List ℕ) where
  pub term-states : (i : ℕ) → is_term (record_at v i).kind ≡ true → states v i ≡ true
  term-states i e = rw (term_no_statement (record_at v i).kind e)

  -- a statement not in force is no restriction
  silent_plain : (i : ℕ) → states v i ≡ false → restriction_at v i ≡ plain
  silent_plain i e =
      let off : not (is_statement (record_at v i).kind) ≡ false
      = either_left (not (is_statement (record_at v i).kind)) (in_force v i) e in
      let nine : (record_at v i).kind ≡ 9
      = statement-kind (record_at v i).kind (not-false (is_statement (record_at v i).kind) off) in
      ap restriction_of (construct_inclusion (record_at v i) nine)

  restriction-states : (i : ℕ) → restricted (restriction_at v i) ≡ true → states v i ≡ true
  restriction-states i r =
      unless_false (states v i) (λ e.
      let never : false ≡ true = ap restricted (sym (silent_plain i e)) ∙ r in
      clash (cc))

-- Record i has the same truth at every type.
abbrev pub SameTruth : List ℕ → List ℕ → ℕ → Type 0
SameTruth v w i = (t : ℕ) → truth v t i ≡ truth w t i

module _ (v w : List ℕ) (alike : Alike v w) where
  pub rank_alike : (i : ℕ) → rank v i ≡ rank w i
  rank_alike i = rank_cong v w i (λ j h. alike.kinds j)

  pub atoms_alike : atoms v ≡ atoms w
  atoms_alike = rank_alike (count v) ∙ ap (rank w) alike.counts

  pub types_alike : types v ≡ types w
  types_alike = ap (λ (k : ℕ). 2 ^ k) atoms_alike

  pub states_alike : (i : ℕ) → states v i ≡ states w i
  states_alike i = rw (alike.kinds i, alike.forces i)

  pub restriction_alike : (i : ℕ) → restriction_at v i ≡ restriction_at w i
  restriction_alike i = at (states v i) refl
    where
      at : (b : Bool) → states v i ≡ b → restriction_at v i ≡ restriction_at w i
      at true e = ap restriction_of (alike.says i e)
      at false e = silent_plain v i e ∙ sym (silent_plain w i (sym (states_alike i) ∙ e))

  module _ (good : AcceptedFacts v) (other : AcceptedFacts w) where
    -- what record i says is about terms that have the same truth
    step : (i : ℕ) → states v i ≡ true → Over (SameTruth v w) (construct_of (record_at v i)) → SameTruth v w i
    step i s same t =
        let c = construct_of (record_at v i) in
        truth_eq v good t i
        ∙ evaluate-over c (bit t (rank v i)) (bit t (rank w i)) (truth v t) (truth w t) (λ a. ap (bit t) (rank_alike i))
        (over-map (SameTruth v w) (λ j. truth v t j ≡ truth w t j) (λ j e. e t) c same)
        ∙ ap (λ (c : Construct). evaluate c (bit t (rank w i)) (truth w t)) (alike.says i s)
        ∙ sym (truth_eq w other t i)

    -- operands are terms before the record
    operands : (i : ℕ) → ((j : ℕ) → j < i → states v j ≡ true → SameTruth v w j)
        → Over (SameTruth v w) (construct_of (record_at v i))
    operands i same =
        over-map (Operand v i) (SameTruth v w) (λ j o. same j o.earlier (term-states v j o.term))
        (construct_of (record_at v i)) (construct_over v good i)

    below : (n i : ℕ) → i < n → states v i ≡ true → SameTruth v w i
    below zero i h s = absurd (omega arith)
    below (suc n) i h s = step i s (operands i (λ j l. below n j (omega arith)))

    pub truth_alike : (i : ℕ) → states v i ≡ true → SameTruth v w i
    truth_alike i s = below (suc i) i (omega arith) s

    pub restriction-truth : (i : ℕ) → restricted (restriction_at v i) ≡ true → SameTruth v w i
    restriction-truth i r = truth_alike i (restriction-states v i r)

    pub filler_truth : (i : ℕ) → OverFiller (SameTruth v w) (restriction_at v i)
    filler_truth i = restriction-over (SameTruth v w) (construct_of (record_at v i)) (operands i (λ j l. truth_alike j))
