-- What the code may rely on: at the form, the vocabulary was accepted, row 13 passed and the header was read; along the chain,
-- the form passed; at the index of terms, it passed under some accepted vocabulary.
use Rattle.std.specs.Prelude.{ℕ, ◌+◌, ◌*◌, ◌≤◌, ◌<◌, ◌≡◌, true, List, ◌⊎◌, length}
use Rattle.records.specs.Outcome.{pass}
use Rattle.records.specs.Check.{IsAccepted}
use Rattle.scripts.specs.Format.{entry_size, entry_at, entries, is_step}
use Rattle.scripts.specs.Form.{length_check, form_check}
use Rattle.scripts.specs.declared.entry.Entry.{Entry}
use Rattle.scripts.specs.declared.entry.StepRecord.{StepRecord}

-- The script has record i.
abbrev pub HasEntry : List ℕ → ℕ → Type 0
HasEntry s i = entry_size * i + entry_size ≤ length s

pub record Begun (v s : List ℕ) (header : Entry) : Type 0 where
  pub accepted : IsAccepted v
  pub sized : length_check s ≡ pass
  pub read : header ≡ entry_at s 0

pub record Ready (v s : List ℕ) (header : Entry) : Type 0 where
  pub begun : Begun v s header
  pub form : form_check v s ≡ pass

-- A script that keeps the form over some accepted vocabulary.
pub record Formed (s : List ℕ) : Type 0 where
  pub vocabulary : List ℕ
  pub accepted : IsAccepted vocabulary
  pub form : form_check vocabulary s ≡ pass

-- Record i is a step; a walk along the chain stands at one, or at its end.
pub record IsStep (s : List ℕ) (i : ℕ) : Type 0 where
  pub positive : 0 < i
  pub within : i < entries s
  pub step : is_step (entry_at s i).w0 ≡ true

-- Record i is a start.
pub record IsStart (s : List ℕ) (i : ℕ) : Type 0 where
  pub step : IsStep s i
  pub kind : (entry_at s i).w0 ≡ 3

abbrev pub Reached : List ℕ → ℕ → Type 0
Reached s i = (i ≡ 0) ⊎ IsStep s i

-- A step on the chain, which was read; one that is an extension.
pub record IsRead (s : List ℕ) (r : StepRecord) : Type 0 where
  pub step : IsStep s r.number
  pub read : r.entry ≡ entry_at s r.number

pub record IsExtension (s : List ℕ) (r : StepRecord) : Type 0 where
  pub read : IsRead s r
  pub kind : r.entry.w0 ≡ 4
