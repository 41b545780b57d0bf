-- `types::bitmap::find_first` meets its contract: what the search found, or found nowhere, is the smallest.
-- Assumes nothing.
use Rattle.std.proofs.Common.{ℕ, Bool, List, true, false, ◌≡◌, ◌&&◌, rules, tests, get_or}
use Rattle.std.proofs.lemmas.Iterator.{first_from_Range}
use Rattle.records.specs.Finite.{has}
use Rattle.types.proofs.Invariants.Answers.{found_least}
use Rattle.types.proofs.bitmap.find_first.Goals as goal

abbrev both : List Bool → List Bool → ℕ → Bool
both alive differs t = has alive t && get_or differs t false

pub returns : goal.returns
returns c =
    found_least (both c.args.alive.now c.args.differs.now) c.args.size c.find.result
    (first_from_Range _ _ _ _ (λ t. both c.args.alive.now c.args.differs.now t ≡ true)
    (λ t. both c.args.alive.now c.args.differs.now t ≡ false) c.find.ensures.ran
    (λ t q k. search (rules, tests)) (λ t q k. search (rules, tests)))
