-- What is shown apart is not proved by a script.
--   denied          an element of one term that is none of the other: no script proves the inclusion
--   shown           two terms apart at an element of a model
--   right-verdict   the comparison's verdict is right
-- Assumes nothing.
use Prim.Native.Nat.{ℕ}
use mathlib.Core.Path.{◌≡◌, refl, sym, subst, ◌∙◌}
use mathlib.Core.Bool.{Bool, true, false, not}
use mathlib.Core.List.{List}
use lib.ListN.{length}
use Rattle.records.specs.Outcome.{accepted}
use Rattle.records.proofs.Laws.Tests.{clash}
use Rattle.types.specs.Meaning.{Interpretation, Element, belongs, Model, AlwaysWithin}
use Rattle.types.specs.Comparison.{Verdict, equal, different, comparison}
use Rattle.types.specs.Bitmap.{written, read_back}
use Rattle.types.proofs.Theorems.Comparison.{equal_exactly, different-shown}
use Rattle.scripts.specs.Format.{query_of}
use Rattle.scripts.specs.Run.{script_check}
use Rattle.scripts.proofs.Theorems.Scripts.{accepted-within}
use Rattle.demands.specs.Demands.{Unproved, Shown, Right}

denied : (I : Interpretation) (v : List ℕ) (a b t : ℕ) → Model I v → Element I t → belongs I v a t ≡ true
    → belongs I v b t ≡ false → Unproved v a b
denied I v a b t m i x y s n p q e =
    let first = subst (λ (k : ℕ). AlwaysWithin v k (query_of s).b) p (accepted-within v s n e) in
    let both = subst (λ (k : ℕ). AlwaysWithin v a k) q first in
    let no : false ≡ true = sym y ∙ both I m t i x in
    clash (cc)

-- the element belongs to one of the two, and then the inclusion of that one has no script
either : (v r s : List ℕ) (a b m n : ℕ) (x y : Bool) → x ≡ not y → (x ≡ true → Unproved v a b) → (y ≡ true → Unproved v b a)
    → (query_of r).a ≡ a → (query_of r).b ≡ b → (query_of s).a ≡ b → (query_of s).b ≡ a
    → script_check v r ≡ accepted m → script_check v s ≡ accepted n → ⊥
either v r s a b m n true y e first second p q j k f g = first refl r m p q f
either v r s a b m n false true e first second p q j k f g = second refl s n j k g
either v r s a b m n false false e first second p q j k f g = clash (cc)

shown : (I : Interpretation) (v : List ℕ) (a b t : ℕ) → Model I v → Element I t → belongs I v a t ≡ not (belongs I v b t)
    → Shown I v a b t
shown I v a b t m i e =
    let first : belongs I v a t ≡ true → Unproved v a b
    = λ x. denied I v a b t m i x (other (belongs I v b t) (sym x ∙ e)) in
    let second : belongs I v b t ≡ true → Unproved v b a = λ y. denied I v b a t m i y (e ∙ rw y) in
    record {
      model = m;
      element = i;
      one = e;
      first = first;
      second = second;
      never_both = λ r s j k. either v r s a b j k (belongs I v a t) (belongs I v b t) e first second;
    }
  where
    other : (x : Bool) → true ≡ not x → x ≡ false
    other true h = h
    other false h = refl

pub right-verdict : (v : List ℕ) (a b : ℕ) (out : List ℕ) (x : Verdict) → comparison v a b (length out) ≡ accepted x
    → Right v a b (written (comparison v a b (length out)) v out) x
right-verdict v a b out (equal s n) e = (equal_exactly v a b (length out) (equal s n) e).0 s n refl
right-verdict v a b out (different t s n) e =
    let w = different-shown v a b (length out) t s n e out in (
      λ always. unequal ((equal_exactly v a b (length out) (different t s n) e).1 always),
      shown (read_back v (written (comparison v a b (length out)) v out)) v a b t w.0 w.1 w.2,
    )
  where
    unequal : {k l : ℕ} → different t s n ≡ equal k l → ⊥
    unequal h = clash (cc)
