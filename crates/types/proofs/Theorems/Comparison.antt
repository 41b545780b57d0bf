-- The comparison's answer is right wherever it answers: demand 3, as far as this crate goes.
--   equal_exactly       Equal is answered exactly where the two terms are equal in every model
--   written-survivors   the bytes written hold the survivors
--   different-shown     with Different, it is a model in which the element named belongs to one of the two terms alone
--   different-first     that element is the smallest survivor at which they differ
--   Tally, tally        the numbers of survivors and of rounds
--   verdict_tally       those of a verdict
--   none_equal          with no survivor everything is Equal
-- Assumes nothing.
use Prim.Native.Nat.{ℕ, ◌≤◌, ◌<◌}
use mathlib.Core.Path.{◌≡◌, refl, ap, ◌∙◌}
use mathlib.Core.Bool.{true, not}
use mathlib.Core.List.{List}
use lib.ListN.{drop}
use Rattle.records.specs.Outcome.{accepted}
use Rattle.records.proofs.Laws.Tests.{clash}
use Rattle.records.specs.Finite.{has, members}
use Rattle.types.specs.Meaning.{Element, belongs, Model, AlwaysEqual}
use Rattle.types.specs.Types.{types, truth}
use Rattle.types.specs.Survivors.{rounds, survivors}
use Rattle.types.specs.Comparison.{Verdict, equal, different, distinguishes, first_distinguishing, bitmap_bytes, comparison}
use Rattle.types.specs.Comparison.{counts}
use Rattle.types.specs.declared.answers.Counts.{Counts}
use Rattle.types.specs.Bitmap.{written, read_back, HoldsSurvivors}
use Rattle.records.proofs.Laws.Below.{least-holds}
use Rattle.records.proofs.Laws.Sets.{members-zero}
use Rattle.types.proofs.Theorems.Survivors.{rounds-bound}
use Rattle.types.proofs.Theorems.ReadBack.{bitmap-holds}
use Rattle.types.proofs.Theorems.Verdicts.{Answered, answered, Decided, same, apart, decided, named-first}
use Rattle.types.proofs.Theorems.Verdicts.{distinguishes_survivor, distinguishes-differ, indistinct_same}
use Rattle.types.proofs.Theorems.Verdicts.{indistinct_equal, distinguishes-shown, distinguishes_unequal}

-- The counts: the numbers of survivors and of rounds; those that go with either answer.
abbrev pub Tally : List ℕ → ℕ → ℕ → Type 0
Tally v s n = (s ≡ members (survivors v)) × (n ≡ rounds v) × (n ≤ types v)

abbrev pub VerdictTally : List ℕ → Verdict → Type 0
VerdictTally v (equal s n) = Tally v s n
VerdictTally v (different t s n) = Tally v s n

pub tally : (v : List ℕ) (c : Counts) → c ≡ counts v → Tally v c.survivors c.rounds
tally v c e = rw e (refl, refl, rounds-bound v)

module _ (v : List ℕ) (a b lent : ℕ) where
  -- "The answer is Equal or Different": Equal exactly where the two terms are equal in every finite interpretation that satisfies
  -- the statements; "two are equal if they have the same elements".
  pub equal_exactly : (x : Verdict) → comparison v a b lent ≡ accepted x
      → ((s n : ℕ) → x ≡ equal s n → AlwaysEqual v a b) × (AlwaysEqual v a b → x ≡ equal (members (survivors v)) (rounds v))
  equal_exactly x e = at (answered v a b lent x e) (decided v a b lent x e)
    where
      at : Answered v a b lent x → Decided v a b x
          → ((s n : ℕ) → x ≡ equal s n → AlwaysEqual v a b) × (AlwaysEqual v a b → x ≡ equal (members (survivors v)) (rounds v))
      at c (same none q) = (λ s n h. indistinct_equal v c.good a b none, λ always. q)
      at c (apart l q) = (
        λ s n h. absurd (clash (cc)),
        λ always. absurd (distinguishes_unequal v c.good a b c.few l always),
      )

  -- "They .. are the interpretation written, with either answer"
  pub written-survivors : (x : Verdict) → comparison v a b lent ≡ accepted x → (out : List ℕ)
      → HoldsSurvivors v (written (comparison v a b lent) v out)
  written-survivors x e out =
      let c = answered v a b lent x e in
      rw e (bitmap-holds v c.good c.few (drop bitmap_bytes out))

  -- "It is read back from these bytes and the vocabulary alone", "The element that Different names is the t it carries.": with
  -- Different, it satisfies the statements, and the element named belongs to one of the two terms alone.
  pub different-shown : (t s n : ℕ) → comparison v a b lent ≡ accepted (different t s n) → (out : List ℕ)
      → let I = read_back v (written (comparison v a b lent) v out) in
      Model I v × Element I t × (belongs I v a t ≡ not (belongs I v b t))
  different-shown t s n e out =
      let c = answered v a b lent (different t s n) e in
      let first = named-first v a b t s n (decided v a b lent (different t s n) e) in
      rw e (distinguishes-shown v c.good a b c.few t first.differs (drop bitmap_bytes out))

  -- "with the smallest survivor at which the two terms differ"
  pub different-first : (t s n : ℕ) → comparison v a b lent ≡ accepted (different t s n)
      → (has (survivors v) t ≡ true) × (truth v t a ≡ not (truth v t b))
      × ((u : ℕ) → u < t → has (survivors v) u ≡ true → truth v u a ≡ truth v u b)
  different-first t s n e =
      let first = named-first v a b t s n (decided v a b lent (different t s n) e) in (
        distinguishes_survivor v a b t first.differs,
        distinguishes-differ v a b t first.differs,
        λ u l. indistinct_same v a b u (first.before u l),
      )

  -- "with either go the number of survivors and of rounds that removed something (never over 2^k)"
  pub verdict_tally : (x : Verdict) → comparison v a b lent ≡ accepted x → VerdictTally v x
  verdict_tally x e = at (decided v a b lent x e)
    where
      at : Decided v a b x → VerdictTally v x
      at (same none q) = rw q (refl, refl, rounds-bound v)
      at (apart l q) = rw q (refl, refl, rounds-bound v)

  -- "With no survivor everything is Equal."
  pub none_equal : (x : Verdict) → comparison v a b lent ≡ accepted x → members (survivors v) ≡ 0 → x ≡ equal 0 (rounds v)
  none_equal x e none = at (decided v a b lent x e)
    where
      at : Decided v a b x → x ≡ equal 0 (rounds v)
      at (same h q) = q ∙ ap (λ (s : ℕ). equal s (rounds v)) none
      at (apart l q) =
          let t = first_distinguishing v a b in
          let inside = distinguishes_survivor v a b t (least-holds (types v) (distinguishes v a b) l) in
          let empty = members-zero (survivors v) none t in
          absurd (clash (cc))
