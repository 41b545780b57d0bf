-- What a script record says, by its kind, as the tests of the code tell it.
--   kind_past, by_kind           a kind past the table; what holds of each kind of it, and of none
--   kind_meant, kind_at          what the code's enum has for a number
--   numbered-as                  the number of a kind that was told
--   step_start, step-extension   the rule for steps
-- Assumes nothing.
use Prim.Native.Nat.{ℕ, zero, suc, ◌≤◌, ◌<◌}
use native.Mathlib.Omega.{arith}
use native.Mathlib.Decide.{dec_lt}
use mathlib.Core.Path.{◌≡◌, refl, sym, subst, ◌∙◌}
use mathlib.Core.List.{List}
use lib.ListN.{get_or-eq_default}
use lib.Dec.{leb}
use Rattle.std.specs.Prelude.{Option, None, Some, IfSome}
use Rattle.records.proofs.Laws.Ranges.{Run, between}
use Rattle.scripts.specs.Steps.{extension}
use Rattle.scripts.specs.Format.{extension_of, step, Kind, no_kind, kinds, kind_of, line_of}
use Rattle.scripts.specs.Form.{line_fits}
use Rattle.scripts.specs.Code.Kinds.{numbered_kinds, kind_numbered, number_of_kind, number_or_none}
use Rattle.scripts.specs.declared.entry.Entry.{Entry}
use Rattle.scripts.specs.declared.entry.EntryKind.{EntryKind}

pub kind_past : (k : ℕ) → 6 ≤ k → kind_of k ≡ no_kind
unfolding kind_of
kind_past k h = get_or-eq_default kinds no_kind h

-- What holds of the kinds of the table, and of a kind that is not in it.
pub by_kind : (P : ℕ → Kind → Type 0) → Run (λ k. P k (kind_of k)) 0 6 → ((k : ℕ) → 6 ≤ k → P k no_kind) → (k : ℕ)
    → P k (kind_of k)
by_kind P table past k = at (dec_lt k 6)
  where
    at : Dec (k < 6) → P k (kind_of k)
    at (yes h) = between (λ k. P k (kind_of k)) 6 0 table k (omega arith) h
    at (no h) = subst (P k) (sym (kind_past k (omega arith))) (past k (omega arith))

-- A kind says what its number in the code's enum does.
pub kind_meant : (k : ℕ) → kind_of k ≡ kind_of (number_or_none (kind_numbered k))
unfolding kind_of
kind_meant =
    by_kind (λ k x. x ≡ kind_of (number_or_none (kind_numbered k))) (refl, (refl, (refl, (refl, (refl, (refl, tt))))))
    (λ k h. rw (get_or-eq_default numbered_kinds None h))

-- Where the table has this number, it is the one of its kind.
pub kind_at : (k : ℕ) → IfSome (kind_numbered k) (λ x. k ≡ number_of_kind x)
kind_at zero = tt
kind_at (suc zero) = refl
kind_at (suc (suc zero)) = refl
kind_at (suc (suc (suc zero))) = refl
kind_at (suc (suc (suc (suc zero)))) = refl
kind_at (suc (suc (suc (suc (suc zero))))) = refl
kind_at (suc (suc (suc (suc (suc (suc k)))))) = tt

pub numbered-as : (k : ℕ) (o : Option EntryKind) (x y : EntryKind) → o ≡ kind_numbered k → o ≡ Some x → x ≡ y
    → k ≡ number_of_kind y
numbered-as k o x y e q r = let here : kind_numbered k ≡ Some y = sym e ∙ (q ∙ rw r) in rw here at (kind_at k)

module _ (v s : List ℕ) (i : ℕ) (e : Entry) where
  pub step_start : e.w0 ≡ 3 → leb e.w1 1 ≡ line_fits v s i (line_of e)
  unfolding kind_of
  step_start h = rw h

  pub step-extension : e.w0 ≡ 4 → line_fits v s i (step (extension (extension_of e))) ≡ line_fits v s i (line_of e)
  unfolding kind_of
  step-extension h = rw h
