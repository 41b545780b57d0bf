-- What holds of every entry of a list, and of every number that occurs in one.
--   All                      the property
--   all-entry, all_default   it holds at an index; and past the end, where it holds of the default
--   all_map                  what follows from it
--   occurs_nil, occurs_cons  a number occurs in no empty list; where it occurs in another
--   all-occurs               what holds of every entry holds of a number that occurs
--   all_occurring, map_same  what holds of every number that occurs; so lists of their values are the same
--   sets_all                 a list of which every entry was set
-- Assumes nothing.
use Prim.Native.Nat.{ℕ, zero, suc, ◌+◌, ◌<◌}
use native.Mathlib.Omega.{arith}
use native.Mathlib.Decide.{ℕ_discrete}
use mathlib.Core.Path.{◌≡◌, refl, sym, ap, subst, ◌∙◌}
use mathlib.Core.Bool.{true, or-true}
use mathlib.Core.List.{List, [], ◌∷◌, ◌++◌, map, append-nil}
use mathlib.Core.Logic.{◌⊎◌, inl, inr, ⊎_elim}
use lib.ListN.{length, get_or, drop_of_length-le}
use lib.Seq.{sets, sets-eq}
use lib.Dec.{eqb}
use borrow.Author.Tests.{eq-eqb, ne_eqb}
use Rattle.records.specs.Finite.{occurs}
use Rattle.records.proofs.Laws.Tests.{clash, either_rest}

-- What holds of every entry of a list holds of the entry at an index, and so does what follows from it.
abbrev pub All : {A : Type 0} → (A → Type 0) → List A → Type 0
All P [] = Unit {0}
All P (x ∷ xs) = P x × All P xs

pub all-entry : {A : Type 0} (P : A → Type 0) (l : List A) (d : A) → All P l → (k : ℕ) → k < length l → P (get_or l k d)
all-entry P [] d t k h = absurd (omega arith)
all-entry P (x ∷ xs) d t zero h = t.0
all-entry P (x ∷ xs) d t (suc k) h = all-entry P xs d t.1 k (omega arith)

pub all_map : {A : Type 0} (P Q : A → Type 0) → ((x : A) → P x → Q x) → (l : List A) → All P l → All Q l
all_map P Q f [] t = tt
all_map P Q f (x ∷ xs) t = (f x t.0, all_map P Q f xs t.1)

-- the same where the entry past the end is known
pub all_default : {A : Type 0} (P : A → Type 0) (l : List A) (d : A) → P d → All P l → (k : ℕ) → P (get_or l k d)
all_default P [] d p t k = p
all_default P (x ∷ xs) d p t zero = t.0
all_default P (x ∷ xs) d p t (suc k) = all_default P xs d p t.1 k

pub occurs_nil : (x : ℕ) → occurs x [] ≡ true → ⊥
unfolding occurs
occurs_nil x o = clash (cc)

pub occurs_cons : (x y : ℕ) (l : List ℕ) → occurs x (y ∷ l) ≡ true → (x ≡ y) ⊎ (occurs x l ≡ true)
unfolding occurs
occurs_cons x y l o = at (ℕ_discrete x y)
  where
    at : Dec (x ≡ y) → (x ≡ y) ⊎ (occurs x l ≡ true)
    at (yes e) = inl e
    at (no n) = inr (either_rest (eqb x y) (occurs x l) o (ne_eqb x y n))

pub all-occurs : (P : ℕ → Type 0) (l : List ℕ) → All P l → (x : ℕ) → occurs x l ≡ true → P x
all-occurs P [] t x o = absurd (occurs_nil x o)
all-occurs P (y ∷ l) t x o =
    ⊎_elim (λ e. subst P (sym e) t.0) (λ p. all-occurs P l t.1 x p) (occurs_cons x y l o)

pub all_occurring : (P : ℕ → Type 0) (is : List ℕ) → ((i : ℕ) → occurs i is ≡ true → P i) → All P is
unfolding occurs
all_occurring P [] h = tt
all_occurring P (i ∷ is) h = (h i (rw (eq-eqb i i refl)), all_occurring P is (λ j o. h j (rw o (or-true (eqb j i)))))

pub map_same : {A : Type 0} (f g : ℕ → A) (is : List ℕ) → ((i : ℕ) → occurs i is ≡ true → f i ≡ g i) → map f is ≡ map g is
unfolding occurs
map_same f g [] h = refl
map_same f g (i ∷ is) h =
    rw (h i (rw (eq-eqb i i refl)), map_same f g is (λ j o. h j (rw o (or-true (eqb j i)))))

pub sets_all : {A : Type 0} (new l : List A) → length l ≡ length new → sets l 0 new ≡ new
sets_all {A} new l e =
    sets-eq new l 0 (omega arith)
    ∙ ap (λ (r : List A). new ++ r) (drop_of_length-le l {i = 0 + length new} (omega arith))
    ∙ append-nil new
