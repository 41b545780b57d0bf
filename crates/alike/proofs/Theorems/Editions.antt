-- Vocabularies that differ in edition look alike.
--   kind_alike, a_alike, b_alike   kind, A and B of each record
--   record_alike                   a record behind the header
--   chain_alike                    the chain
--   editions_alike                 the theorem; the vocabularies need not be accepted
-- Assumes nothing.
use Prim.Native.Nat.{ℕ, zero, suc, ◌+◌, ◌*◌, ◌/◌, ◌≤◌, ◌<◌}
use native.Mathlib.Omega.{arith}
use mathlib.Core.Path.{◌≡◌, ap, ap₂, ◌∙◌}
use mathlib.Core.List.{List}
use mathlib.Core.Logic.{inl, inr}
use Rattle.records.specs.Format.{record_size, word_at, record_at, count, first_statement}
use Rattle.records.specs.Finite.{occurs}
use Rattle.records.specs.Chain.{next_statement, follow, chain}
use Rattle.records.specs.declared.fields.Record.{Record}
use Rattle.records.proofs.Laws.Parts.{record_bytes_lem, record_same}
use Rattle.records.proofs.Theorems.Constructs.{construct_same}
use Rattle.records.proofs.Theorems.Following.{follow-same}
use Rattle.alike.specs.Alike.{Alike}
use Rattle.alike.specs.Editions.{OffEdition, DifferInEdition}

-- The bytes of record i before next, but the second, are neither the edition nor k; nor is any byte behind the header.
off_fields : (i n : ℕ) → record_size * i ≤ n → (n ≡ record_size * i + 1 → ⊥) → n < record_size * i + 6 → OffEdition n
off_fields zero n l o h = (λ e. o (omega arith), inl (omega arith))
off_fields (suc i) n l o h = (λ e. omega arith, inr (omega arith))

off_header : (n : ℕ) → record_size ≤ n → OffEdition n
off_header n l = (λ e. omega arith, inr l)

module _ (v w : List ℕ) (differ : DifferInEdition v w) where
  word_alike : (n : ℕ) → OffEdition n → OffEdition (n + 1) → word_at v n ≡ word_at w n
  word_alike n low high = rw (differ.same n low, differ.same (n + 1) high)

  -- A and B stand from the third byte on
  operand_alike : (i n : ℕ) → record_size * i + 2 ≤ n → n < record_size * i + 5 → word_at v n ≡ word_at w n
  operand_alike i n l h =
      word_alike n (off_fields i n (omega arith) (λ e. omega arith) (omega arith))
      (off_fields i (n + 1) (omega arith) (λ e. omega arith) (omega arith))

  pub kind_alike : (i : ℕ) → (record_at v i).kind ≡ (record_at w i).kind
  kind_alike i =
      rw (record_bytes_lem v i, record_bytes_lem w i) (differ.same (record_size * i)
      (off_fields i (record_size * i) (omega arith) (λ e. omega arith) (omega arith)))

  pub a_alike : (i : ℕ) → (record_at v i).a ≡ (record_at w i).a
  a_alike i =
      rw (record_bytes_lem v i, record_bytes_lem w i) (operand_alike i (record_size * i + 2) (omega arith) (omega arith))

  pub b_alike : (i : ℕ) → (record_at v i).b ≡ (record_at w i).b
  b_alike i =
      rw (record_bytes_lem v i, record_bytes_lem w i) (operand_alike i (record_size * i + 4) (omega arith) (omega arith))

  -- a record behind the header
  pub record_alike : (i : ℕ) → 0 < i → record_at v i ≡ record_at w i
  record_alike i p = record_same v w i (λ n l h. differ.same n (off_header n (omega arith)))

  next_alike : (i : ℕ) → (record_at v (suc i)).next ≡ (record_at w (suc i)).next
  next_alike i = ap (λ (r : Record). r.next) (record_alike (suc i) (omega arith))

  pub count_alike : count v ≡ count w
  count_alike = ap (λ (n : ℕ). n / record_size) differ.size

  chain_alike : chain v ≡ chain w
  chain_alike =
      follow-same (next_statement v) (next_statement w) next_alike (count v) (first_statement v)
      ∙ ap₂ (follow (next_statement w)) count_alike (a_alike 0)

pub editions_alike : (v w : List ℕ) → DifferInEdition v w → Alike v w
editions_alike v w differ =
    record {
      counts = count_alike v w differ;
      kinds = kind_alike v w differ;
      forces = λ i. ap (occurs i) (chain_alike v w differ);
      says = λ i s. construct_same _ _ (kind_alike v w differ i) (a_alike v w differ i) (b_alike v w differ i);
    }
