-- Meets, one type or word further.
--   meet_turn, keep_turn                  one that passes the test is met; one that does not, is not
--   meets_start, meets_more, meets_same   the meets for each value of a part of the bits, of none; of one type more; of no more
-- Assumes nothing.
use Prim.Native.Nat.{ℕ, ◌+◌, ◌^◌, ◌-◌, ◌<◌}
use native.Mathlib.Omega.{arith}
use mathlib.Core.Path.{◌≡◌, refl, sym, ◌∙◌}
use mathlib.Core.Bool.{Bool, true, false, not, ◌&&◌, ◌||◌, and-false}
use mathlib.Core.List.{List}
use lib.Bits.{bit_and}
use lib.Dec.{eqb}
use lib.ListN.{length, get_or, set, length-set}
use borrow.Author.Tests.{eq-eqb, ne_eqb}
use Rattle.records.specs.Finite.{all_below, has, bit}
use Rattle.records.proofs.Laws.Tests.{both_true}
use Rattle.records.proofs.Laws.Bits.{bit-and}
use Rattle.records.proofs.Laws.Width.{bit_ones}
use Rattle.records.proofs.Laws.Filling.{set-each, all_start, all_turn, all-holds_turn}
use Rattle.types.specs.Comparison.{atom_limit}
use Rattle.taxonomy.specs.Code.Meets.{halves, Meets}

module _ (test : ℕ → Bool) (word : ℕ → ℕ) (n q met : ℕ)
    (so_far : bit met q ≡ all_below (λ x. not (test x) || bit (word x) q) n) where
  pub meet_turn : (more : ℕ) → test n ≡ true → more ≡ word n
      → bit (bit_and met more) q ≡ all_below (λ x. not (test x) || bit (word x) q) (n + 1)
  meet_turn more e same =
      bit-and met more q
      ∙ all_turn (λ x. not (test x) || bit (word x) q) n (bit met q) (bit more q) so_far (rw (e, same))

  pub keep_turn : test n ≡ false → bit met q ≡ all_below (λ x. not (test x) || bit (word x) q) (n + 1)
  keep_turn e = all-holds_turn (λ x. not (test x) || bit (word x) q) n (bit met q) so_far (rw e)

module _ (part : ℕ → ℕ) (S : List Bool) (table : List ℕ) where
  -- the members with value x of the part
  abbrev valued : ℕ → ℕ → Bool
  valued x t = has S t && eqb (part t) x

  pub meets_start : length table ≡ halves → ((x : ℕ) → x < halves → get_or table x 0 ≡ 2 ^ atom_limit - 1) → Meets part S 0 table
  meets_start size full =
      record { size = size; meet_at = λ x h q less. rw (full x h) (bit_ones atom_limit q less ∙ all_start _) }

  module _ (t : ℕ) (m : Meets part S t table) where
    pub meets_same : has S t ≡ false → Meets part S (t + 1) table
    meets_same out =
        record { size = m.size; meet_at = λ x h q less. keep_turn (valued x) (λ t. t) t q _ (m.meet_at x h q less) (rw out) }

    pub meets_more : has S t ≡ true → part t < halves
        → Meets part S (t + 1) (set table (part t) (bit_and (get_or table (part t) 0) t))
    meets_more inside small =
        record {
          size = length-set table (part t) _ ∙ m.size;
          meet_at = λ x h q less. set-each (λ x w. x < halves → bit w q ≡ all_below (λ u. not (valued x u) || bit u q) (t + 1))
              table (part t) (bit_and (get_or table (part t) 0) t) 0 (omega (arith, m.size)) (λ h. here q less)
              (λ x n h. there x h q less n) x h;
        }
      where
        here : (q : ℕ) → q < atom_limit
            → bit (bit_and (get_or table (part t) 0) t) q ≡ all_below (λ u. not (valued (part t) u) || bit u q) (t + 1)
        here q less =
            meet_turn (valued (part t)) (λ t. t) t q (get_or table (part t) 0) (m.meet_at (part t) small q less) t
            (both_true _ _ inside (eq-eqb (part t) (part t) refl)) refl

        there : (x : ℕ) → x < halves → (q : ℕ) → q < atom_limit → (x ≡ part t → ⊥)
            → bit (get_or table x 0) q ≡ all_below (λ u. not (valued x u) || bit u q) (t + 1)
        there x h q less n =
            keep_turn (valued x) (λ t. t) t q (get_or table x 0) (m.meet_at x h q less)
            (rw (ne_eqb (part t) x (λ e. n (sym e))) (and-false (has S t)))
