-- The numbers can be taken apart again: specs/Unpacked.antt states it.
--   unpacks, unpacks_verdict, unpacks_counts   an outcome that is small can be taken apart
--   taken_apart                                so those of the calls can be
--   unpacks_fits                               their value, or the place of their refusal, has 32 bits
-- Assumes nothing.
use Prim.Native.Nat.{ℕ, ◌*◌, ◌^◌, ◌<◌, max}
use native.Mathlib.Omega.{arith}
use mathlib.Core.List.{List}
use Rattle.records.specs.Format.{record_size, record_limit}
use Rattle.records.specs.Outcome.{Outcome, accepted, refused}
use Rattle.records.specs.Check.{vocabulary_check}
use Rattle.records.specs.Call.{record_call}
use Rattle.writer.specs.Additions.{Addition}
use Rattle.writer.specs.Calls.{making, adding, new_length}
use Rattle.types.specs.Comparison.{Verdict, equal, different, comparison}
use Rattle.types.specs.declared.answers.Counts.{Counts}
use Rattle.taxonomy.specs.Taxonomy.{classification}
use Rattle.scripts.specs.Run.{script_check}
use Rattle.demands.proofs.Theorems.Bounds.{Small, SmallVerdict, vocabulary-small, record_small, most, comparison-small}
use Rattle.demands.proofs.Theorems.Bounds.{SmallCounts, classification-small, most_place, script_small, making-small}
use Rattle.demands.proofs.Theorems.Bounds.{addition-small}
use Rattle.scripts.proofs.Theorems.Form.{query-below}
use Rattle.judge.specs.Packed.{value_of, packed, packed_verdict, packed_counts}
use Rattle.judge.specs.Unpacked.{Unpacks, UnpacksVerdict, UnpacksCounts, TakenApart}

unpacks : (m : ℕ) (o : Outcome ℕ) → m < 2 ^ 32 → Small m o → Unpacks (packed o) o
unpacks m (accepted x) l h = (omega arith, omega arith, omega arith)
unpacks m (refused n p) l h = (omega arith, h.0, omega arith, omega arith)

unpacks_verdict : (m : ℕ) (o : Outcome Verdict) → m < 2 ^ 32 → SmallVerdict m o → UnpacksVerdict (packed_verdict o) o
unpacks_verdict m (accepted (equal s n)) l h =
    (omega arith, omega arith, omega (arith, h.0), omega (arith, h.0), omega (arith, h.0))
unpacks_verdict m (accepted (different t s n)) l h =
    (omega arith, omega arith, omega (arith, h.0), omega (arith, h.0, h.1), omega (arith, h.0, h.1))
unpacks_verdict m (refused n p) l h = (omega (arith, h.1), h.0, omega (arith, h.1), omega (arith, h.2))

unpacks_counts : (o : Outcome Counts) → SmallCounts record_limit o → UnpacksCounts (packed_counts o) o
unpacks_counts (accepted c) h = (omega arith, omega (arith, h.0), omega (arith, h.0), omega (arith, h.0))
unpacks_counts (refused n p) h = (omega (arith, h.1), h.0, omega (arith, h.1), omega (arith, h.2))

pub taken_apart : TakenApart
taken_apart =
    record {
      vocabulary = λ v. unpacks record_limit (vocabulary_check v) (omega arith) (vocabulary-small v);
      recording = λ v number h.
          unpacks (max (record_size * record_limit) number) (record_call v number) (omega arith) (record_small v number);
      compares = λ v a b lent h k.
          unpacks_verdict (most v a b lent) (comparison v a b lent) (omega arith) (comparison-small v a b lent);
      classifies = λ v lent room. unpacks_counts (classification v lent room) (classification-small v lent room);
      checks = λ v s bytes.
          let query = query-below s bytes in
          unpacks (most_place s) (script_check v s) (omega (arith, query.0, query.1)) (script_small v s);
      makes = λ size roles.
          unpacks (record_size * record_limit) (new_length (making size roles)) (omega arith) (making-small size roles);
      adds = λ buffer used x.
          unpacks (record_size * record_limit) (new_length (adding buffer used x)) (omega arith) (addition-small buffer used x);
    }

pub unpacks_fits : (x : ℕ) (o : Outcome ℕ) → Unpacks x o → value_of o < 2 ^ 32
unpacks_fits x (accepted value) h = h.2
unpacks_fits x (refused n p) h = h.3
