-- `scripts::entry::Placed::step_fits` meets its contract. The kind of the record says which rule it is under.
-- Assumes nothing.
use Rattle.std.proofs.Common.{ℕ, List, ◌≡◌, ◌≢◌, true, refl, rules}
use Rattle.scripts.specs.Form.{line_fits}
use Rattle.scripts.specs.Code.Kinds.{number_of_kind}
use Rattle.scripts.specs.declared.entry.Entry.{Entry}
use Rattle.scripts.specs.declared.entry.EntryKind.{EntryKind}
use Rattle.scripts.specs.declared.entry.EntryKind.TheVariants.{Constant, Term, Start, Extension, Reduction}
use Rattle.scripts.specs.Format.{kind_of}
use Rattle.scripts.proofs.entry.Placed.step_fits.Goals as goal

no-rule : (v s : List ℕ) (i : ℕ) (e : Entry) (k : EntryKind) → k ≢ Start → k ≢ Extension
    → true ≡ line_fits v s i ((kind_of (number_of_kind k)).says e)
unfolding kind_of
no-rule v s i e Constant a b = refl
no-rule v s i e Term a b = refl
no-rule v s i e Start a b = absurd (a refl)
no-rule v s i e Extension a b = absurd (b refl)
no-rule v s i e Reduction a b = refl

pub returns-in_default : goal.returns-in_default
unfolding kind_of
returns-in_default c =
    rw (c.kind.ensures.meaning, c.in_default.is) (no-rule _ _ _ _ c.in_default.field-0 (λ q. search rules) (λ q. search rules))
