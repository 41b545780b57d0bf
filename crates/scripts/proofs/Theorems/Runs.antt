-- A derivation runs: its steps pass, one after the other, and close its column.
--   height-room     a derivation that keeps the limit has room for its column
--   runs            the steps of a derivation, then others, run as the others do once the derivation's column is closed
--   start_begins    start, and a derivation of its column, is a chain that passes
--   derives-chain   a chain whose steps are a derivation passes the check
-- Assumes nothing.
use Prim.Native.Nat.{ℕ, suc, ◌-◌, ◌<◌, ◌≤◌}
use native.Mathlib.Omega.{arith}
use mathlib.Core.Path.{◌≡◌, refl, ap, sym, subst, ◌∙◌}
use mathlib.Core.Bool.{true}
use mathlib.Core.List.{List, [], ◌∷◌, map, ◌++◌, append_assoc, append-nil}
use lib.ListN.{length}
use borrow.Author.Tests.{lt-ltb}
use Rattle.records.specs.Outcome.{pass}
use Rattle.columns.specs.Literals.{complement}
use Rattle.columns.specs.Columns.{Query}
use Rattle.scripts.specs.Format.{query_of}
use Rattle.scripts.specs.Steps.{start}
use Rattle.scripts.specs.Calculus.{on_path, Derivation, ended, reduced, extended, steps, height, frame_limit, start_column}
use Rattle.scripts.specs.Calculus.{Derives}
use Rattle.scripts.specs.Run.{close, extend_by, chain_check, written_out, step_at}
use Rattle.scripts.proofs.Theorems.Tests.{passes-true, succeeds, chain_succeeds, chain_succeeds_lem}
use Rattle.scripts.proofs.Theorems.Steps.{Literals, OpenFrames, Steps, goals, room, close-goal, reduction_succeeds}
use Rattle.scripts.proofs.Theorems.Steps.{extension_succeeds, start_open}

module _ (v : List ℕ) (q : Query) where
  height-room : {c path : Literals} (n : ℕ) (d : Derivation v q c path) → height d ≤ frame_limit - n → room c n ≡ true
  unfolding height
  height-room n ended h = refl
  height-room n (reduced f l p d) h = lt-ltb n frame_limit (omega arith)
  height-room n (extended e l p above d) h = lt-ltb n frame_limit (omega arith)

  runs : {c path : Literals} (d : Derivation v q c path) (frames : OpenFrames) (rest : Steps) → path ≡ goals frames
      → height d ≤ frame_limit - length frames
      → succeeds (written_out v q) (steps d ++ rest) (extend_by c frames) ≡ succeeds (written_out v q) rest (extend_by [] frames)
  unfolding steps height extend_by
  runs ended frames rest e h = refl
  runs (reduced {l} {c} {path} f p k d) frames rest e h =
      reduction_succeeds v q l c frames f (steps d ++ rest)
      (subst (λ (x : Literals). f < length x) e p)
      (subst (λ (x : Literals). on_path x f ≡ complement l) e k)
      ∙ runs d frames rest e (omega arith)
  runs (extended {l} {c} {path} x p k above d) frames rest e h =
      let space = height-room (suc (length frames)) above (omega arith) in
      rw append_assoc
      (extension_succeeds v q l c frames x (steps above ++ (steps d ++ rest)) k space
      ∙ runs above ((l ∷ c) ∷ frames) (steps d ++ rest) (ap (λ (y : Literals). l ∷ y) e) (omega arith)
      ∙ ap (succeeds (written_out v q) (steps d ++ rest)) (close-goal l c frames)
      ∙ runs d frames rest e (omega arith))

  start_begins : (n : ℕ) (d : Derivation v q (start_column v q n) []) → n ≤ 1 → height d ≤ frame_limit
      → chain_succeeds (written_out v q) (start n ∷ steps d) ≡ true
  unfolding succeeds extend_by close
  start_begins n d h k =
      ap (succeeds (written_out v q) (steps d)) (start_open v q n h)
      ∙ ap (λ (list : Steps). succeeds (written_out v q) list (extend_by (start_column v q n) [])) (sym (append-nil (steps d)))
      ∙ runs d [] [] refl k

pub derives-chain : (v s : List ℕ) (is : List ℕ) → Derives v (query_of s) (map (step_at s) is)
    → chain_check (written_out v (query_of s)) (step_at s) is ≡ pass
derives-chain v s is d =
    let paper = written_out v (query_of s) in
    passes-true (chain_check paper (step_at s) is)
    (chain_succeeds_lem paper (step_at s) is
    ∙ ap (chain_succeeds paper) d.same
    ∙ start_begins v (query_of s) d.column d.derivation d.listed d.frames)
