-- Marks made along the chain: what is marked, and what is still to be walked, is the chain.
-- Assumes nothing.
use Prim.Native.Nat.{ℕ, ◌<◌}
use native.Mathlib.Omega.{arith}
use native.Mathlib.Decide.{ℕ_discrete}
use mathlib.Core.Path.{◌≡◌, refl, sym, ◌∙◌, ap, subst}
use mathlib.Core.Bool.{Bool, true, false, ◌||◌, or-true, or-false}
use mathlib.Core.List.{List}
use lib.ListN.{length, get_or, set, length-set}
use lib.Seq.{get_or-set_same, get_or-set_other}
use lib.Dec.{eqb}
use borrow.Author.Tests.{eq-eqb, ne_eqb}
use Rattle.records.specs.Format.{record_limit, record_at, count, first_statement}
use Rattle.records.specs.Chain.{next_statement, chain_from, chained}
use Rattle.records.specs.Finite.{occurs}
use Rattle.records.proofs.Theorems.Accepted.{AcceptedFacts, Later, Linked}
use Rattle.records.proofs.Theorems.Chains.{linked-next, chain-step}
use Rattle.records.proofs.Theorems.Following.{follow_nil}

pub record Marking (v : List ℕ) (marks : List Bool) (at : ℕ) : Type 0 where
  pub size : length marks ≡ record_limit
  pub linked : Linked v 0 at
  pub marked : (i : ℕ) → (get_or marks i false || occurs i (chain_from v at)) ≡ chained v i

module _ (v : List ℕ) (good : AcceptedFacts v) where
  pub start : (marks : List Bool) (at : ℕ) → length marks ≡ record_limit → ((i : ℕ) → get_or marks i false ≡ false)
      → at ≡ first_statement v → Marking v marks at
  start marks at size none e =
      record {
        size = size;
        linked = subst (Linked v 0) (sym e) good.first;
        marked = λ i. rw (none i, e);
      }

  pub next : (marks : List Bool) (at x : ℕ) → Marking v marks at → Later v 0 at → x ≡ (record_at v at).next → Marking v
      (set marks at true) x
  unfolding occurs
  next marks at x m s e =
      record {
        size = length-set marks at true ∙ m.size;
        linked = linked-next v good at x s e;
        marked = λ i. mark i (ℕ_discrete i at);
      }
    where
      -- the chain from here is this statement and the chain from the next
      told : (i : ℕ) → (get_or marks i false || (eqb i at || occurs i (chain_from v (record_at v at).next))) ≡ chained v i
      told i = ap (λ (l : List ℕ). get_or marks i false || occurs i l) (sym (chain-step v good 0 at s)) ∙ m.marked i

      full : at < length marks
      full = omega (arith, good.sized.most, s.within, m.size)

      mark : (i : ℕ) → Dec (i ≡ at) → (get_or (set marks at true) i false || occurs i (chain_from v x)) ≡ chained v i
      mark i (yes q) =
          rw (q, get_or-set_same marks at true false full)
          (sym (or-true (get_or marks at false)) ∙ rw (eq-eqb at at refl) at (told at))
      mark i (no q) = rw (e, get_or-set_other marks at i true false q) (rw (ne_eqb i at q) at (told i))

  pub done : (marks : List Bool) → Marking v marks 0 → (i : ℕ) → get_or marks i false ≡ chained v i
  unfolding occurs
  done marks m i =
      sym (or-false (get_or marks i false))
      ∙ (ap (λ (l : List ℕ). get_or marks i false || occurs i l) (sym (follow_nil (next_statement v) (count v))) ∙ m.marked i)
