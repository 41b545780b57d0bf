-- A run that passes is read as a derivation. (`runs`: the other way.)
--   StepListed, AllListed            a step uses what is listed: a query column, a column's position; each step of a list does
--   Reading                          a derivation of a column above given frames, and the steps left once it is closed
--   rest_shorter                     no more steps are left than there were
--   read-reduction, read-extension   a step before what is read after it
--   Readable, reads                  steps that pass with a column open above given frames are read so
--   read_step                        the same, if fewer steps are
--   closed_fails                     no step passes when no frame is open
--   start-derives, begins_derives    start, and steps that pass from its column; a chain of steps that passes
--   chain-derives                    a chain that passes the check is a derivation, if its steps use what is listed
-- Assumes nothing.
use Prim.Native.Nat.{ℕ, zero, suc, ◌-◌, ◌<◌, ◌≤◌}
use native.Mathlib.Omega.{arith}
use mathlib.Core.Path.{◌≡◌, refl, ap, sym, ◌∙◌}
use mathlib.Core.Bool.{true}
use mathlib.Core.List.{List, [], ◌∷◌, map, ◌++◌, append_assoc, append-nil}
use lib.ListN.{length, length-append}
use borrow.Author.Tests.{ltb-true}
use Rattle.records.specs.Outcome.{pass}
use Rattle.records.proofs.Laws.Tests.{clash}
use Rattle.columns.specs.Literals.{SkolemTerm, Literal, complement}
use Rattle.columns.specs.Columns.{Query}
use Rattle.scripts.specs.Format.{query_of}
use Rattle.scripts.specs.Steps.{Extension, Step, start, extension, reduction}
use Rattle.scripts.specs.Calculus.{connected_literal, remainder, PositionExists, on_path, Derivation, ended, reduced}
use Rattle.scripts.specs.Calculus.{extended, steps, height, frame_limit, start_column, Derives}
use Rattle.scripts.specs.Run.{close, extend_by, stepped, chain_check, written_out, step_at}
use Rattle.scripts.proofs.Theorems.Tests.{passes, succeeds, chain_succeeds, chain_succeeds_lem}
use Rattle.scripts.proofs.Theorems.Steps.{Literals, OpenFrames, Steps, goals, room, room_under, close-goal}
use Rattle.scripts.proofs.Theorems.Steps.{succeeds_reduction, succeeds_extension, start_open}

abbrev pub StepListed : List ℕ → Query → Step SkolemTerm → Type 0
StepListed v q (start n) = n ≤ 1
StepListed v q (extension e) = PositionExists v q e
StepListed v q (reduction f) = Unit {0}

abbrev pub AllListed : List ℕ → Query → Steps → Type 0
AllListed v q [] = Unit {0}
AllListed v q (step ∷ rest) = StepListed v q step × AllListed v q rest

record Reading (v : List ℕ) (q : Query) (c : Literals) (frames : OpenFrames) (list : Steps) : Type 0 where
  derivation : Derivation v q c (goals frames)
  rest : Steps
  same : list ≡ steps derivation ++ rest
  bounded : height derivation ≤ frame_limit - length frames
  listed : AllListed v q rest
  succeeded : succeeds (written_out v q) rest (extend_by [] frames) ≡ true

module _ (v : List ℕ) (q : Query) where
  rest_shorter : {c : Literals} {frames : OpenFrames} {list : Steps} (r : Reading v q c frames list)
      → length r.rest ≤ length list
  rest_shorter r = omega (arith, ap length r.same, length-append (steps r.derivation) r.rest)

  module _ (l : Literal SkolemTerm) (c : Literals) (frames : OpenFrames) (list : Steps) where
    read-reduction : (f : ℕ) → length frames < frame_limit → f < length (goals frames) → on_path (goals frames) f ≡ complement l
        → Reading v q c frames list → Reading v q (l ∷ c) frames (reduction f ∷ list)
    unfolding steps height
    read-reduction f h k m r =
        record {
          derivation = reduced f k m r.derivation;
          rest = r.rest;
          same = ap (λ (x : Steps). reduction f ∷ x) r.same;
          bounded = omega arith;
          listed = r.listed;
          succeeded = r.succeeded;
        }

    read-extension : (e : Extension SkolemTerm) → length frames < frame_limit → PositionExists v q e → connected_literal v q e
        ≡ complement l
        → (r : Reading v q (remainder v q e) ((l ∷ c) ∷ frames) list) → Reading v q c frames r.rest
        → Reading v q (l ∷ c) frames (extension e ∷ list)
    unfolding steps height
    read-extension e h k m r t =
        record {
          derivation = extended e k m r.derivation t.derivation;
          rest = t.rest;
          same =
              ap (λ (x : Steps). extension e ∷ x)
              (r.same
              ∙ ap (λ (x : Steps). steps r.derivation ++ x) t.same
              ∙ sym (append_assoc (steps r.derivation) (steps t.derivation) t.rest));
          bounded = omega arith;
          listed = t.listed;
          succeeded = t.succeeded;
        }

  abbrev Readable : Steps → Type 0
  Readable list =
      (c : Literals) (frames : OpenFrames) → room c (length frames) ≡ true → AllListed v q list
      → succeeds (written_out v q) list (extend_by c frames) ≡ true → Reading v q c frames list

  read_step : (c : Literals) (list : Steps) (frames : OpenFrames)
      → ((rest : Steps) → length rest < length list → Readable rest)
      → room c (length frames) ≡ true → AllListed v q list → succeeds (written_out v q) list (extend_by c frames) ≡ true
      → Reading v q c frames list
  unfolding succeeds extend_by steps height
  read_step [] list frames h m a p =
      record { derivation = ended; rest = list; same = refl; bounded = omega arith; listed = a; succeeded = p }
  read_step (l ∷ c) [] frames h m a p = absurd (clash (cc))
  read_step (l ∷ c) (start n ∷ list) frames h m a p = absurd (clash (cc))
  read_step (l ∷ c) (reduction f ∷ list) frames h m a p =
      let k = ltb-true (length frames) frame_limit m in
      let s = succeeds_reduction v q l c frames f list p in
      read-reduction l c frames list f k s.0.0 s.0.1
      (h list (omega arith) c frames (room_under c (length frames) k) a.1 s.1)
  read_step (l ∷ c) (extension e ∷ list) frames h m a p =
      let k = ltb-true (length frames) frame_limit m in
      let s = succeeds_extension v q l c frames e list p in
      let r = h list (omega arith) (remainder v q e) ((l ∷ c) ∷ frames) s.0.1 a.1 s.1 in
      let left = ap (succeeds (written_out v q) r.rest) (sym (close-goal l c frames)) ∙ r.succeeded in
      read-extension l c frames list e k a.0 s.0.0 r
      (h r.rest (omega (arith, rest_shorter r)) c frames (room_under c (length frames) k) r.listed left)

  reads : (n : ℕ) (list : Steps) → length list ≤ n → Readable list
  reads zero list h c frames = read_step c list frames (λ rest k. absurd (omega arith))
  reads (suc n) list h c frames = read_step c list frames (λ rest k. reads n rest (omega arith))

  closed_fails : (list : Steps) → succeeds (written_out v q) list (extend_by [] []) ≡ true → list ≡ []
  unfolding succeeds extend_by close
  closed_fails [] p = refl
  closed_fails (step ∷ list) p = absurd (clash (cc))

  start-derives : (n : ℕ) (list : Steps) → n ≤ 1 → AllListed v q list
      → succeeds (written_out v q) list (stepped (written_out v q) [] (start n)) ≡ true
      → Derives v q (start n ∷ list)
  start-derives n list h a p =
      let space = room_under (start_column v q n) 0 (omega arith) in
      let opened = ap (succeeds (written_out v q) list) (sym (start_open v q n h)) ∙ p in
      let r = reads (length list) list (omega arith) (start_column v q n) [] space a opened in
      record {
        column = n;
        listed = h;
        derivation = r.derivation;
        same =
            ap (λ (x : Steps). start n ∷ x)
            (r.same
            ∙ ap (λ (x : Steps). steps r.derivation ++ x) (closed_fails r.rest r.succeeded)
            ∙ append-nil (steps r.derivation));
        frames = omega (arith, r.bounded);
      }

  begins_derives : (list : Steps) → AllListed v q list → chain_succeeds (written_out v q) list ≡ true → Derives v q list
  begins_derives [] a p = absurd (clash (cc))
  begins_derives (start n ∷ list) a p = start-derives n list a.0 a.1 p
  begins_derives (extension e ∷ list) a p = absurd (clash (cc))
  begins_derives (reduction f ∷ list) a p = absurd (clash (cc))

pub chain-derives : (v s : List ℕ) (is : List ℕ) → AllListed v (query_of s) (map (step_at s) is)
    → chain_check (written_out v (query_of s)) (step_at s) is ≡ pass → Derives v (query_of s) (map (step_at s) is)
chain-derives v s is a e =
    begins_derives v (query_of s) (map (step_at s) is) a
    (sym (chain_succeeds_lem (written_out v (query_of s)) (step_at s) is) ∙ ap passes e)
