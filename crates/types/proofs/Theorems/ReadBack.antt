-- The bitmap holds the survivors: what is read back from it is their canonical model.
--   bitmap-bit           bit t mod 8 of byte t div 8 says whether t is a survivor
--   survivor_below       a survivor has a bit in the bitmap
--   read_back_canonical   the interpretation read back is the canonical one of the survivors
--   read_agrees          its elements belong to the terms true at them
--   read-model           it satisfies the statements, if there is a survivor
--   bitmap-holds         so the bitmap holds the survivors
-- Assumes nothing.
use Prim.Native.Nat.{ℕ, ◌+◌, ◌*◌, ◌/◌, ◌%◌, ◌≤◌, ◌<◌}
use native.Mathlib.Omega.{arith}
use mathlib.Core.Path.{◌≡◌, refl, sym, ap, ◌∙◌}
use mathlib.Core.Bool.{true}
use mathlib.Core.List.{List, ◌++◌}
use lib.ListN.{get_or, get_or-append}
use lib.Pow.{pow_mono}
use Rattle.records.proofs.Theorems.Accepted.{AcceptedFacts}
use Rattle.records.specs.Atoms.{atoms}
use Rattle.records.specs.Finite.{table, has, bit}
use Rattle.types.specs.Meaning.{belongs, Model}
use Rattle.types.specs.Types.{truth}
use Rattle.types.specs.Survivors.{survivors}
use Rattle.types.specs.Comparison.{atom_limit, bitmap_bytes}
use Rattle.types.specs.Bitmap.{byte_of, bitmap, read_back, HoldsSurvivors}
use Rattle.records.proofs.Laws.Sets.{length-table, table_at}
use Rattle.records.proofs.Laws.Bits.{bit-number}
use Rattle.types.proofs.Theorems.Survivors.{survivors-serving}
use Rattle.types.proofs.Theorems.CanonicalModel.{Canonical, canonical_agrees, canonical_model}

module _ (v rest : List ℕ) where
  bitmap_byte : (n : ℕ) → n < bitmap_bytes → get_or (bitmap v ++ rest) n 0 ≡ byte_of (survivors v) n
  unfolding bitmap
  bitmap_byte n l =
      let bytes = table bitmap_bytes (byte_of (survivors v)) in
      let long = length-table bitmap_bytes (byte_of (survivors v)) in
      get_or-append bytes rest 0 n (omega arith) ∙ table_at bitmap_bytes (byte_of (survivors v)) 0 n l

  pub bitmap-bit : (t : ℕ) → t < 8 * bitmap_bytes → bit (get_or (bitmap v ++ rest) (t / 8) 0) (t % 8) ≡ has (survivors v) t
  bitmap-bit t l =
      let whole : 8 * (t / 8) + t % 8 ≡ t = omega arith in
      ap (λ (byte : ℕ). bit byte (t % 8)) (bitmap_byte (t / 8) (omega arith))
      ∙ bit-number 8 (λ j. has (survivors v) (8 * (t / 8) + j)) (t % 8) (omega arith)
      ∙ ap (has (survivors v)) whole

  pub survivor_below : atoms v ≤ atom_limit → (t : ℕ) → has (survivors v) t ≡ true → t < 8 * bitmap_bytes
  survivor_below k t h = omega (arith, (survivors-serving v).small t h, pow_mono {i = atoms v} {j = atom_limit} k)

  pub read_back_canonical : atoms v ≤ atom_limit → Canonical v (survivors v) (read_back v (bitmap v ++ rest))
  read_back_canonical k =
      record {
        inside = λ t h. record { below = survivor_below k t h; inside = bitmap-bit t (survivor_below k t h) ∙ h };
        only = λ t e. sym (bitmap-bit t e.below) ∙ e.inside;
        names = λ i t. refl;
        roles = λ r t s. refl;
      }

module _ (v : List ℕ) (good : AcceptedFacts v) (few : atoms v ≤ atom_limit) (rest : List ℕ) where
  pub read_agrees : (i t : ℕ) → has (survivors v) t ≡ true → belongs (read_back v (bitmap v ++ rest)) v i t ≡ truth v t i
  read_agrees =
      canonical_agrees v good (survivors v) (survivors-serving v).serves (read_back v (bitmap v ++ rest))
      (read_back_canonical v rest few)

  pub read-model : (t : ℕ) → has (survivors v) t ≡ true → Model (read_back v (bitmap v ++ rest)) v
  read-model = canonical_model v good (survivors v) (survivors-serving v) (read_back v (bitmap v ++ rest))
      (read_back_canonical v rest few)

  pub bitmap-holds : HoldsSurvivors v (bitmap v ++ rest)
  bitmap-holds =
      let canonical = read_back_canonical v rest few in
      record { only = canonical.only; every = canonical.inside; model = λ t e. read-model t (canonical.only t e) }
