-- What the calls return, from the equations of their contracts.
--   vocabulary_returns, offset_returns, record_returns,
--   comparison_returns, classification_returns, script_returns,
--   making_returns, addition_returns                             of each call
--   survivors_told                                               what goes with the survivors
-- Assumes nothing.
use Prim.Native.Nat.{ℕ, ◌+◌, ◌≤◌}
use native.Mathlib.Omega.{arith}
use mathlib.Core.Path.{◌≡◌, refl, sym, ap, ◌∙◌}
use mathlib.Core.List.{List, ◌++◌}
use lib.ListN.{length, drop, length-take, length-drop}
use Rattle.records.specs.Outcome.{Outcome, accepted, refused}
use Rattle.records.specs.Check.{vocabulary_check}
use Rattle.std.proofs.Common.{Result, Ok, Err}
use Rattle.records.specs.Refusals as calls
use Rattle.records.specs.declared.refusals.Refusal.{Refusal}
use Rattle.records.specs.Call.{record_call, part_for, record_part}
use Rattle.records.proofs.Theorems.Bounds.{record_within}
use Rattle.writer.specs.Additions.{Addition}
use Rattle.writer.specs.Calls.{making, adding, new_length, buffer_after}
use Rattle.types.specs.declared.answers.Counts.{Counts}
use Rattle.types.specs.Comparison.{equal, different, comparison}
use Rattle.types.specs.Bitmap.{written, HoldsSurvivors}
use Rattle.types.specs.Answers as types
use Rattle.types.specs.declared.answers.Compared.{Compared}
use Rattle.types.specs.declared.answers.Compared.TheVariants as compared
use Rattle.types.proofs.Theorems.Comparison.{Tally, tally, verdict_tally, different-first}
use Rattle.taxonomy.specs.Taxonomy.{taxonomy_bytes, taxonomy, classification, tabulated}
use Rattle.taxonomy.proofs.Theorems.Answers.{answered}
use Rattle.records.proofs.Laws.Tests.{clash}
use Rattle.scripts.specs.Format.{chain}
use Rattle.scripts.specs.Run.{script_check}
use Rattle.scripts.proofs.Theorems.Scripts.{checked_parts, accepted-derives, accepted-within}
use Rattle.demands.specs.Table.{Row, Follows}
use Rattle.demands.specs.Returns.{VocabularyReturns, OffsetReturns, RecordReturns, handed, empty, SurvivorsTold, Smallest}
use Rattle.demands.specs.Returns.{ComparisonReturns, ClassificationReturns, ScriptReturns, MakingReturns}
use Rattle.demands.specs.Returns.{AdditionReturns}
use Rattle.demands.proofs.Theorems.Demands.{demand_1, demand_2}
use Rattle.demands.proofs.Theorems.Promises.{writes-survivors, right-table, writes_vocabularies, addition-accepted}
use Rattle.demands.proofs.Theorems.Tables.{vocabulary_follows, record_follows, comparison_follows}
use Rattle.demands.proofs.Theorems.Tables.{classification_follows, script_follows, making_follows, addition_follows}
use Rattle.demands.proofs.Theorems.Denials.{right-verdict}

pub vocabulary_returns : (v : List ℕ) (r : Result ℕ Refusal) → calls.answered r ≡ vocabulary_check v → VocabularyReturns v r
vocabulary_returns v (Ok n) e = (vocabulary_follows v).accepted_only n (sym e)
vocabulary_returns v (Err r) e = (vocabulary_follows v).refused_only _ _ (sym e)

pub offset_returns : (v : List ℕ) (number : ℕ) (r : Result ℕ Refusal)
    → calls.answered r ≡ record_call v number → OffsetReturns v number r
offset_returns v number (Ok n) e = (record_follows v number).accepted_only n (sym e)
offset_returns v number (Err r) e = (record_follows v number).refused_only _ _ (sym e)

pub record_returns : (v : List ℕ) (number : ℕ) (part : List ℕ) → part ≡ record_part v number → RecordReturns v number part
record_returns v number part e = at (record_call v number) refl e
  where
    at : (o : Outcome ℕ) → record_call v number ≡ o → part ≡ part_for o v → RecordReturns v number part
    at (accepted n) q h =
        let w = (record_follows v number).accepted_only n q in
        let whole : n + 8 ≤ length v = record_within v number n q in
        handed w.0 (h ∙ rw w.1) (ap length h ∙ simp (length-take, length-drop) (omega arith))
    at (refused n p) q h = empty n p ((record_follows v number).refused_only n p q) h

-- The answer of a call that follows its table and writes the survivors.
survivors_told : {A : Type 0} {rows : List Row} {value : A} {o : Outcome A} (v before after : List ℕ) (x : A) (counts : Counts)
    → Follows rows value o → o ≡ accepted x → after ≡ written o v before → Tally v counts.survivors counts.rounds
    → HoldsSurvivors v (written o v before) → SurvivorsTold rows v before after counts
survivors_told v before after x counts f e w c held =
    record {
      none = (f.accepted_only x e).0;
      counted = c.0;
      elapsed = c.1;
      few = c.2;
      wrote = w ∙ rw e;
      holds = rw w held;
    }

module _ (v : List ℕ) (a b : ℕ) (before after : List ℕ) where
  smallest : (t s n : ℕ) → comparison v a b (length before) ≡ accepted (different t s n) → Smallest v a b t
  smallest t s n e =
      let w = different-first v a b (length before) t s n e in record { survives = w.0; differ = w.1; before = w.2 }

  pub comparison_returns : (r : Result Compared Refusal) → types.compared r ≡ comparison v a b (length before)
      → after ≡ written (comparison v a b (length before)) v before → ComparisonReturns v a b before after r
  comparison_returns (Ok (compared.Equal counts)) e w =
      let f = comparison_follows v a b (length before) in
      let x = equal counts.survivors counts.rounds in
      let c = verdict_tally v a b (length before) x (sym e) in
      let held = writes-survivors.compares v before a b x (sym e) in
      (right-verdict v a b before x (sym e), survivors_told v before after x counts f (sym e) w c held)
  comparison_returns (Ok (compared.Different t counts)) e w =
      let f = comparison_follows v a b (length before) in
      let x = different t counts.survivors counts.rounds in
      let c = verdict_tally v a b (length before) x (sym e) in
      let held = writes-survivors.compares v before a b x (sym e) in
      let apart = right-verdict v a b before x (sym e) in (
        apart.0,
        rw w apart.1,
        smallest t counts.survivors counts.rounds (sym e),
        survivors_told v before after x counts f (sym e) w c held,
      )
  comparison_returns (Err r) e w =
      ((comparison_follows v a b (length before)).refused_only _ _ (sym e), w ∙ rw (← e))

module _ (v before after room filled : List ℕ) where
  abbrev outcome : Outcome Counts
  outcome = classification v (length before) (length room)

  pub classification_returns : (r : Result Counts Refusal) → calls.answered r ≡ outcome → after ≡ written outcome v before
      → filled ≡ tabulated outcome v room → ClassificationReturns v before after room filled r
  classification_returns (Ok counts) e w k =
      let f = classification_follows v (length before) (length room) in
      let c = answered v (length before) (length room) counts (sym e) in
      let wrote : filled ≡ taxonomy v ++ drop taxonomy_bytes room = k ∙ rw (← e) in (
        survivors_told v before after counts counts f (sym e) w (tally v counts c.answer)
            (writes-survivors.classifies v before room counts (sym e)),
        wrote,
        right-table v c.good c.few room filled c.second wrote,
      )
  classification_returns (Err r) e w k =
      ((classification_follows v (length before) (length room)).refused_only _ _ (sym e), w ∙ rw (← e), k ∙ rw (← e))

pub script_returns : (v s : List ℕ) (r : Result ℕ Refusal) → calls.answered r ≡ script_check v s → ScriptReturns v s r
script_returns v s (Ok n) e =
    record {
      none = ((script_follows v s).accepted_only n (sym e)).0;
      always = accepted-within v s n (sym e);
      derives = accepted-derives v s n (sym e);
      counted = (checked_parts v s n (sym e)).counted;
    }
script_returns v s (Err r) e = (
  (script_follows v s).refused_only _ _ (sym e),
  λ good kept derives.
      let accepts = (demand_2.exact v s good kept).always derives in
      let no : refused (calls.number_of r.row) r.place ≡ accepted (length (chain s)) = e ∙ accepts in
      clash (cc),
)

pub making_returns : (before : List ℕ) (roles : ℕ) (after : List ℕ) (r : Result ℕ Refusal)
    → calls.answered r ≡ new_length (making (length before) roles)
    → after ≡ buffer_after (making (length before) roles) before → MakingReturns before roles after r
making_returns before roles after (Ok n) e w =
    let f = (making_follows (length before) roles).accepted_only n (sym e) in
    (f.0, f.1, rw w (writes_vocabularies.makes before roles n (sym e)))
making_returns before roles after (Err r) e w = (
  (making_follows (length before) roles).refused_only _ _ (sym e),
  w ∙ demand_1.unmade before roles _ _ (sym e),
)

pub addition_returns : (before : List ℕ) (used : ℕ) (x : Addition) (after : List ℕ) (r : Result ℕ Refusal)
    → calls.answered r ≡ new_length (adding before used x) → after ≡ buffer_after (adding before used x) before
    → AdditionReturns before used x after r
addition_returns before used x after (Ok n) e w =
    let f = (addition_follows before used x).accepted_only n (sym e) in
    rw w (f.0, f.1, rw f.1 (addition-accepted before used x n (sym e)), writes_vocabularies.only before used n x (sym e))
addition_returns before used x after (Err r) e w = (
  (addition_follows before used x).refused_only _ _ (sym e),
  w ∙ demand_1.unadded before used _ _ x (sym e),
)
