-- The chain of an accepted vocabulary rises and ends.
--   chain-step        the chain from a statement
--   chain-ends        followed as far as one likes it is the chain
--   chain_rises       each statement is after the one before
--   chain-statement   what is on the chain is a statement
--   force_statement   so is what is in force
--   linked-here, linked-next, walk_falls   a walk along the chain: where it stands, where it goes, and that it ends
--   end_nil, end_step                      the last statement of what is left of it
--   end_statement                          the end of a chain that is not empty is a statement
-- (Following has the laws for any chain.) Assumes nothing.
use Prim.Native.Nat.{ℕ, ◌≤◌, ◌<◌}
use native.Mathlib.Omega.{arith}
use mathlib.Core.Path.{◌≡◌, refl, sym, ap, subst}
use mathlib.Core.Bool.{true, or-true}
use mathlib.Core.List.{List, [], ◌∷◌}
use mathlib.Core.Logic.{inl, inr}
use lib.Dec.{eqb}
use borrow.Author.Tests.{eq-eqb}
use Rattle.records.specs.Format.{record_at, count, first_statement}
use Rattle.records.specs.Finite.{occurs, last_or}
use Rattle.records.specs.Chain.{next_statement, follow, chain_from, chain, chained, in_force, chain_end}
use Rattle.records.proofs.Theorems.Accepted.{AcceptedFacts, IsStatement, Later, Linked}
use Rattle.records.proofs.Theorems.Following.{Rising, follow-step, follow-ends, follow_rises, follow_target}
use Rattle.records.proofs.Theorems.Following.{follow_nil, left, left_falls, onward_from}

-- the last of a list occurs in it, unless the list is empty
last_of : (x : ℕ) (xs : List ℕ) → occurs (last_or x xs) (x ∷ xs) ≡ true
unfolding last_or occurs
last_of x [] = rw (eq-eqb x x refl)
last_of x (y ∷ ys) = rw (last_of y ys) (or-true (eqb (last_or y ys) x))

last_occurs : (d : ℕ) (l : List ℕ) → d < last_or d l → occurs (last_or d l) l ≡ true
unfolding last_or
last_occurs d [] h = absurd (omega arith)
last_occurs d (x ∷ xs) h = last_of x xs

module _ (v : List ℕ) (good : AcceptedFacts v) where
  pub chain-step : (i x : ℕ) → Later v i x → chain_from v x ≡ x ∷ chain_from v (record_at v x).next
  chain-step i x s = follow-step (next_statement v) (IsStatement v) (count v) good.rises i x s

  pub chain-ends : (n : ℕ) → count v ≤ n → follow (next_statement v) n (first_statement v) ≡ chain v
  chain-ends n h = follow-ends (next_statement v) (IsStatement v) (count v) good.rises n (first_statement v) good.first h

  pub chain_rises : Rising 0 (chain v)
  chain_rises = follow_rises (next_statement v) (IsStatement v) (count v) good.rises (count v) 0 (first_statement v)
      good.first

  pub chain-statement : (j : ℕ) → chained v j ≡ true → Later v 0 j
  chain-statement j o =
      follow_target (next_statement v) (IsStatement v) (count v) good.rises (count v) 0 (first_statement v) j good.first o

  pub force_statement : (i : ℕ) → in_force v i ≡ true → Later v 0 i
  force_statement i f = chain-statement i f

  -- the statement that a walk stands at
  pub linked-here : (at : ℕ) → Linked v 0 at → (at ≡ 0 → ⊥) → Later v 0 at
  linked-here at (inl e) h = absurd (h e)
  linked-here at (inr s) h = s

  pub linked-next : (at x : ℕ) → Later v 0 at → x ≡ (record_at v at).next → Linked v 0 x
  linked-next at x s e =
      subst (Linked v 0) (sym e)
      (onward_from (IsStatement v) (count v) 0 at (record_at v at).next (omega arith)
      (good.rises at s.later s.within s.target))

  pub walk_falls : (at x : ℕ) → Later v 0 at → x ≡ (record_at v at).next → left (count v) x < left (count v) at
  walk_falls at x s e =
      left_falls (IsStatement v) (count v) at x s.later s.within
      (subst (Linked v at) (sym e) (good.rises at s.later s.within s.target))

  -- the chain's end, where there is one, is a statement
  pub end_statement : 0 < chain_end v → Later v 0 (chain_end v)
  end_statement h = chain-statement (chain_end v) (last_occurs 0 (chain v) h)

  -- the chain from a statement ends with what comes after it, or with it
  pub end_step : (d at : ℕ) → Later v 0 at → last_or at (chain_from v (record_at v at).next) ≡ last_or d (chain_from v at)
  unfolding last_or
  end_step d at s = sym (ap (last_or d) (chain-step 0 at s))

pub end_nil : (v : List ℕ) (d : ℕ) → last_or d (chain_from v 0) ≡ d
unfolding last_or
end_nil v d = ap (last_or d) (follow_nil (next_statement v) (count v))
