-- A loop that runs one case after another.
use Rattle.std.proofs.Common.{◌≡◌, ℕ, ◌+◌, List, [], ◌∷◌, ◌++◌, length}
use Rattle.std.proofs.Common.{sym, ap, ◌∙◌, subst, arith, true, false, Bool}
use Rattle.std.proofs.Common.{append_assoc, append-nil}
use Rattle.std.specs.declared.option.Option.{Option}
use Rattle.std.specs.Prelude.{All}
use Rattle.std.specs.List.{flat_map}
use Rattle.std.proofs.lemmas.Grind.{common_steps}
use Rattle.std.specs.Io.KnownBytes.{Appends, Consumes}
use Rattle.std.proofs.KnownBytes.{Appends-trans, Consumes-trans}
use Rattle.lent.specs.Cases.{RunsCase}

-- so many cases were taken from the input, and their lines written
pub record Ran {C : Type 0} (Fits : C → Type 0) (bytes line : C → List ℕ) (old new before after : Option (List ℕ)) (n : ℕ)
    : Type 0 where
  pub cases : List C
  pub all : All Fits cases
  pub many : length cases ≡ n
  pub read : Consumes old new (flat_map bytes cases)
  pub wrote : Appends before after (flat_map line cases)

flat_map-snoc : {C : Type 0} (f : C → List ℕ) (cs : List C) (c : C) → flat_map f (cs ++ c ∷ []) ≡ flat_map f cs ++ f c
flat_map-snoc f [] c = append-nil (f c)
flat_map-snoc f (d ∷ ds) c = ap (λ l. f d ++ l) (flat_map-snoc f ds c) ∙ sym (append_assoc (f d) (flat_map f ds) (f c))

All-snoc : {C : Type 0} (P : C → Type 0) (cs : List C) (c : C) → All P cs → P c → All P (cs ++ c ∷ [])
All-snoc P cs c all one = grind (arith, common_steps, all, one)

pub one_more : {C : Type 0} {Fits : C → Type 0} {bytes line : C → List ℕ} (old mid new before during after : Option (List ℕ))
    (n : ℕ) (whole : Bool)
    → whole ≡ true → Ran Fits bytes line old mid before during n → RunsCase Fits bytes line mid new during after whole
    → Ran Fits bytes line old new before after (n + 1)
one_more {C} {Fits} {bytes} {line} old mid new before during after n true t ran (c, fits, next, told) = record {
  cases = ran.cases ++ c ∷ [];
  all = All-snoc Fits ran.cases c ran.all fits;
  many = grind (arith, common_steps, ran.many);
  read = subst (Consumes old new) (sym (flat_map-snoc bytes ran.cases c)) (Consumes-trans _ _ _ _ _ ran.read next);
  wrote = subst (Appends before after) (sym (flat_map-snoc line ran.cases c)) (Appends-trans _ _ _ _ _ ran.wrote told);
}
one_more old mid new before during after n false t ran h = absurd (grind (arith, common_steps, t))
