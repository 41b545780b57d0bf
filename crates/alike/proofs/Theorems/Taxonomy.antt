-- Vocabularies that look alike get the same classification, and it writes the same in both buffers.
--   names_alike                   the names
--   name-states                   a name may have columns; so may the header, which stands for a name past the last
--   broader_alike                 which is broader
--   entry_alike, taxonomy_alike   an entry, and the table of them
--   classification_alike          the classification's answer, refusals included
--   first_alike, second_alike     what it writes in either buffer
-- Assumes nothing.
use Prim.Native.Nat.{ℕ, ◌/◌, ◌%◌, ◌<◌}
use native.Mathlib.Omega.{arith}
use native.Mathlib.Decide.{dec_lt}
use mathlib.Core.Path.{◌≡◌, refl, sym, ap, ap₂, subst, fun_ext, ◌∙◌}
use mathlib.Core.Bool.{true, false}
use mathlib.Core.List.{List, ◌++◌}
use lib.ListN.{length, drop, get_or-eq_default}
use Rattle.records.specs.Outcome.{Outcome, accepted, refused}
use Rattle.records.specs.Format.{record_at}
use Rattle.records.specs.Kinds.{kind_of, is_name, is_statement}
use Rattle.records.specs.Check.{vocabulary_check}
use Rattle.records.specs.Finite.{any_below, all_below, list_below, table}
use Rattle.records.proofs.Theorems.Accepted.{AcceptedFacts, accepted-vocabulary}
use Rattle.types.specs.declared.answers.Counts.{Counts}
use Rattle.types.specs.Bitmap.{written}
use Rattle.columns.specs.Columns.{states}
use Rattle.taxonomy.specs.Taxonomy.{names, name_count, name_at, broader, strictly_broader, between, entry, taxonomy_bytes}
use Rattle.taxonomy.specs.Taxonomy.{entry_byte}
use Rattle.taxonomy.specs.Taxonomy.{taxonomy, classification, tabulated, first_after, second_after}
use Rattle.taxonomy.proofs.Theorems.Names.{name-is}
use Rattle.alike.specs.Alike.{Alike}
use Rattle.alike.proofs.Theorems.Truth.{atoms_alike, types_alike, truth_alike}
use Rattle.alike.proofs.Theorems.Survivors.{survivors_alike, rounds_alike}
use Rattle.alike.proofs.Theorems.Comparison.{written_same}

-- a record of a kind that is no statement's may have columns
kind-states : (v : List ℕ) (i k : ℕ) → (record_at v i).kind ≡ k → is_statement k ≡ false → states v i ≡ true
kind-states v i k e h = rw (e, h)

name-states : (v : List ℕ) → AcceptedFacts v → (m : ℕ) → states v (name_at v m) ≡ true
unfolding kind_of
name-states v good m = at (dec_lt m (name_count v))
  where
    at : Dec (m < name_count v) → states v (name_at v m) ≡ true
    at (yes h) = kind-states v (name_at v m) 3 (name-is v m h).1 refl
    at (no n) =
        let past : name_at v m ≡ 0 = get_or-eq_default (names v) 0 (omega arith) in
        subst (λ (i : ℕ). states v i ≡ true) (sym past) (kind-states v 0 16 good.header refl)

module _ (v w : List ℕ) (alike : Alike v w) where
  pub names_alike : names v ≡ names w
  names_alike = ap₂ list_below (fun_ext (λ i. ap is_name (alike.kinds i))) alike.counts

  module _ (good : AcceptedFacts v) (other : AcceptedFacts w) where
    pub broader_alike : (a b : ℕ) → states v a ≡ true → states v b ≡ true → broader v a b ≡ broader w a b
    unfolding broader
    broader_alike a b p q =
        ap₂ all_below
        (fun_ext (λ t. rw (
          survivors_alike v w alike good other,
          truth_alike v w alike good other a p t,
          truth_alike v w alike good other b q t,
        )))
        (types_alike v w alike)

    strictly_alike : (a b : ℕ) → states v a ≡ true → states v b ≡ true → strictly_broader v a b ≡ strictly_broader w a b
    strictly_alike a b p q = rw (broader_alike a b p q, broader_alike b a q p)

    between_alike : (a b : ℕ) → states v a ≡ true → states v b ≡ true → between v a b ≡ between w a b
    between_alike a b p q =
        ap₂ any_below
        (fun_ext (λ m. let s = name-states v good m in
        rw (strictly_alike a (name_at v m) p s, strictly_alike (name_at v m) b s q, names_alike)))
        (ap length names_alike)

    pub entry_alike : (a b : ℕ) → states v a ≡ true → states v b ≡ true → entry v a b ≡ entry w a b
    unfolding entry
    entry_alike a b p q = rw (broader_alike a b p q, broader_alike b a q p, between_alike a b p q)

    byte_alike : (n : ℕ) → entry_byte v n ≡ entry_byte w n
    byte_alike n =
        let row = n / name_count v in
        let column = n % name_count v in
        rw (
          entry_alike (name_at v row) (name_at v column) (name-states v good row) (name-states v good column),
          names_alike,
        )

    pub taxonomy_alike : taxonomy v ≡ taxonomy w
    unfolding taxonomy
    taxonomy_alike = ap (table taxonomy_bytes) (fun_ext byte_alike)

    tabulated-same : (o : Outcome Counts) (room : List ℕ) → tabulated o v room ≡ tabulated o w room
    tabulated-same (accepted x) room = ap (λ (l : List ℕ). l ++ drop taxonomy_bytes room) taxonomy_alike
    tabulated-same (refused n p) room = refl

  module _ (m n : ℕ) (first : vocabulary_check v ≡ accepted m) (second : vocabulary_check w ≡ accepted n) where
    abbrev good : AcceptedFacts v
    good = accepted-vocabulary v m first

    abbrev other : AcceptedFacts w
    other = accepted-vocabulary w n second

    pub classification_alike : (lent room : ℕ) → classification v lent room ≡ classification w lent room
    unfolding classification
    classification_alike lent room =
        rw (
          first,
          second,
          atoms_alike v w alike,
          survivors_alike v w alike good other,
          rounds_alike v w alike good other,
        )

    pub first_alike : (lent room : List ℕ) → first_after v lent room ≡ first_after w lent room
    first_alike lent room =
        ap (λ (o : Outcome Counts). written o v lent) (classification_alike (length lent) (length room))
        ∙ written_same v w alike good other (classification w (length lent) (length room)) lent

    pub second_alike : (lent room : List ℕ) → second_after v lent room ≡ second_after w lent room
    second_alike lent room =
        ap (λ (o : Outcome Counts). tabulated o v room) (classification_alike (length lent) (length room))
        ∙ tabulated-same good other (classification w (length lent) (length room)) room
