-- `scripts::form::are_zero` meets its contract. The closure tells of each word whether it is zero.
-- Assumes nothing.
use Prim.Native.Nat.{ℕ}
use mathlib.Core.Path.{◌≡◌, refl, ◌∙◌}
use mathlib.Core.List.{List, [], ◌∷◌}
use lib.Dec.{eqb}
use Rattle.std.specs.List.{list_all}
use Rattle.std.proofs.Common.{rules, tests}
use Rattle.std.proofs.lemmas.Iterator.{YieldsList-from_slice}
use Rattle.std.proofs.lemmas.Iterator.Search.{all_from_yields_List}
use Rattle.records.specs.Finite.{all_zero}
use Rattle.scripts.proofs.form.are_zero.Goals as goal

zeros : (ws : List ℕ) → list_all (λ w. eqb w 0) ws ≡ all_zero ws
unfolding all_zero
zeros [] = refl
zeros (w ∷ ws) = rw (zeros ws)

pub returns : goal.returns
returns c =
    all_from_yields_List (λ w. eqb w 0) _ _ _ c.all.ensures.ran (YieldsList-from_slice c.args.words.now cc)
    (λ x b q k. search (rules, tests))
    ∙ zeros c.args.words.now
