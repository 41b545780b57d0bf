-- What is kept of a type, from a table of its truths.
--   prepared_good, few-records, Bounded, listing_bounded   what is prepared is small
--   prepared_size                                 how many types it has
--   other_role, other_roles_done                  the word of the other roles
--   describe_done                                 at a type: whether the statements hold, whether the terms differ, the words
--   stating                                       the statements, listed from marks
--   prepared                                      tables, cut to what was listed in them
-- Assumes nothing.
use Prim.Native.Nat.{ℕ, ◌*◌, ◌%◌, ◌^◌, ◌≤◌, ◌<◌}
use native.Mathlib.Omega.{arith}
use mathlib.Core.Path.{◌≡◌, sym, ap, ap₂, ◌∙◌}
use mathlib.Core.Bool.{Bool, true, false, beq, not, ◌||◌}
use mathlib.Core.List.{List}
use lib.Dec.{eqb}
use lib.ListN.{length, get_or, take}
use lib.Seq.{length-take-le, get_or-take}
use borrow.Author.Tests.{eqb-true, eq-eqb}
use mathlib.Core.Logic.{◌⊎◌, inl, inr}
use Rattle.records.specs.Format.{record_at, count, record_limit}
use Rattle.records.specs.Chain.{in_force}
use Rattle.records.proofs.Theorems.Accepted.{AcceptedFacts, accepted-vocabulary}
use Rattle.records.proofs.Laws.Ranges.{restriction-kind}
use Rattle.records.proofs.Theorems.Chains.{force_statement}
use Rattle.types.specs.declared.type_data.TypeData.{TypeData}
use Rattle.types.specs.declared.decode.Rule.{Rule}
use Rattle.types.specs.declared.restrict.Restriction.{Restriction}
use Rattle.records.specs.Atoms.{atoms, rank}
use Rattle.records.proofs.Theorems.Ranks.{rank_below}
use Rattle.records.specs.Finite.{all_below, number}
use Rattle.types.specs.Types.{truth, types}
use Rattle.types.specs.Survivors.{satisfies}
use Rattle.types.specs.Code.Rules.{all_true, Truths, Decoded, AtomsListed, no_rule}
use Rattle.types.specs.Code.Words.{width, restriction, signed, negated, restriction_word, filler_word, other_role_word}
use Rattle.types.specs.Comparison.{atom_limit, type_limit}
use Rattle.types.specs.Code.Settling.{Comparable, RestrictionsListed}
use Rattle.types.specs.Code.Settling.{Stating, Prepared, truth_word, differ, type_data_at, no_restriction, kept_of}
use Rattle.records.proofs.Laws.Tests.{implies_true, implies_rest, same_truth}
use Rattle.records.proofs.Laws.Below.{all_intro, all_at}
use Rattle.records.proofs.Laws.Search.{any_intro, any_elim}
use Rattle.records.proofs.Laws.Bits.{number_cong}
use Rattle.records.proofs.Laws.Listing.{Entered, ListedBelow, listed-few, listed-sound, listed-finds}
use Rattle.types.proofs.Theorems.Survivors.{types-bound, size_word}
use Rattle.types.proofs.Theorems.Truth.{some-earlier, all-earlier}
use Rattle.types.proofs.Refinement.Restrictions.{restricts, restriction-sound, width-bound}
use Rattle.types.proofs.Refinement.Signed.{says_some, says_all}

-- There are no more than there is room for, and they and their fillers name records.
pub record Bounded (list : List Restriction) : Type 0 where
  pub few : length list ≤ atom_limit
  pub place_below : (m : ℕ) → m < length list → (get_or list m no_restriction).place < record_limit
  pub filler_below : (m : ℕ) → m < length list → (get_or list m no_restriction).filler < record_limit

-- Whether restriction m of a list is of another role.
abbrev pub other_role : List Restriction → ℕ → ℕ → Bool
other_role list role m = not (eqb (get_or list m no_restriction).role role)

module _ (v : List ℕ) (a b : ℕ) (code : List Rule) (places statements : List ℕ) (list : List Restriction)
    (p : Prepared v a b code places statements list) where
  pub prepared_good : AcceptedFacts v
  prepared_good = accepted-vocabulary v (count v) p.query.settles.accepts

  pub few-records : count v ≤ record_limit
  few-records = omega (arith, prepared_good.sized.most)

  filler_earlier : (i : ℕ) → restricts v i ≡ true → (record_at v i).b < i
  filler_earlier i h = at (restriction-kind (record_at v i).kind h)
    where
      at : ((record_at v i).kind ≡ 7) ⊎ ((record_at v i).kind ≡ 8) → (record_at v i).b < i
      at (inl e) = some-earlier v prepared_good i _ _ (says_some v i e)
      at (inr e) = all-earlier v prepared_good i _ _ (says_all v i e)

  -- a restriction and its filler are records
  placed : (m : ℕ) → m < width v → (restriction v m < count v) × ((record_at v (restriction v m)).b < count v)
  placed m h =
      let sound = restriction-sound v (count v) m h in
      (sound.before, omega (arith, sound.before, filler_earlier (restriction v m) sound.restricts))

  kept : (m : ℕ) → m < width v → get_or list m no_restriction ≡ kept_of v (restriction v m)
  kept m h = p.listed.kept m (omega (arith, p.listed.all))

  pub listing_bounded : Bounded list
  listing_bounded =
      record {
        few = omega (arith, p.listed.all, width-bound v, p.query.settles.few);
        place_below = λ m h. let l : m < width v = omega (arith, p.listed.all) in
            rw (kept m l) (omega (arith, (placed m l).0, few-records));
        filler_below = λ m h. let l : m < width v = omega (arith, p.listed.all) in
            rw (kept m l) (omega (arith, (placed m l).1, few-records));
      }

  pub prepared_size : ((1 * 2 ^ length places) % 18446744073709551616 ≡ types v) × (types v ≤ type_limit)
  prepared_size =
      let q = p.query.settles in (size_word v (length places) q.few q.counts, types-bound v q.few)

  pub other_roles_done : (role : ℕ) → number (length list) (other_role list role) ≡ other_role_word v role
  unfolding other_role_word
  other_roles_done role =
      ap (λ (n : ℕ). number n (other_role list role)) p.listed.all
      ∙ number_cong (width v) _ _ (λ m h. ap (λ (r : Restriction). not (eqb r.role role)) (kept m h))

  module _ (t : ℕ) (values : List Bool) (d : Truths v t values) where
    satisfies_done : all_true statements values ≡ satisfies v t
    unfolding all_true satisfies
    satisfies_done = same_truth _ _ onward back
      where
        stated : ℕ → Bool
        stated j = get_or values (get_or statements j 0) false

        done_at : (j : ℕ) → j < length statements → stated j ≡ truth v t (get_or statements j 0)
        done_at j h = d (get_or statements j 0) (p.stated.within j h)

        onward : all_below stated (length statements) ≡ true
            → all_below (λ i. not (in_force v i) || truth v t i) (count v) ≡ true
        onward e =
            all_intro (λ i. not (in_force v i) || truth v t i) (count v)
            (λ i h. implies_true (in_force v i) (truth v t i) (λ c. at i c))
          where
            at : (i : ℕ) → in_force v i ≡ true → truth v t i ≡ true
            at i c =
                let f = any_elim (λ j. eqb (get_or statements j 0) i) (length statements) (p.stated.finds i c) in
                ap (truth v t) (sym (eqb-true (get_or statements f.0 0) i f.2)) ∙ sym (done_at f.0 f.1)
                ∙ all_at stated (length statements) e f.0 f.1

        back : all_below (λ i. not (in_force v i) || truth v t i) (count v) ≡ true
            → all_below stated (length statements) ≡ true
        back e =
            all_intro stated (length statements)
            (λ j h. done_at j h ∙ implies_rest (in_force v (get_or statements j 0)) (truth v t (get_or statements j 0))
            (all_at (λ i. not (in_force v i) || truth v t i) (count v) e (get_or statements j 0) (p.stated.within j h))
            (p.stated.states j h))

    differ_done : not (beq (get_or values a false) (get_or values b false)) ≡ differ v a b t
    differ_done = ap₂ (λ (x y : Bool). not (beq x y)) (d a p.query.first) (d b p.query.second)

    -- the word of what stands at the restrictions' places
    word_done : (place : Restriction → ℕ) → ((m : ℕ) → m < width v → place (kept_of v (restriction v m)) < count v)
        → truth_word values place list
        ≡ number (width v) (λ m. signed (negated v (restriction v m)) (truth v t (place (kept_of v (restriction v m)))))
    word_done place l =
        ap (λ (n : ℕ). number n (λ m. signed (get_or list m no_restriction).universal
        (get_or values (place (get_or list m no_restriction)) false))) p.listed.all
        ∙ number_cong (width v) _ _
        (λ m h. rw (kept m h) (ap (signed (negated v (restriction v m))) (d _ (l m h))))

    pub describe_done : (fit apart : Bool) (x y : ℕ) → fit ≡ all_true statements values
        → apart ≡ not (beq (get_or values a false) (get_or values b false))
        → x ≡ truth_word values (λ r. r.place) list
        → y ≡ truth_word values (λ r. r.filler) list
        → ◌≡◌ {A = TypeData} record { satisfies = fit; differs = apart; held = x; filling = y } (type_data_at v a b t)
    unfolding restriction_word filler_word
    describe_done fit apart x y e f g h =
        rw (
          e ∙ satisfies_done,
          f ∙ differ_done,
          g ∙ word_done (λ r. r.place) (λ m k. (placed m k).0),
          h ∙ word_done (λ r. r.filler) (λ m k. (placed m k).1),
        )

-- The statements, from the marks along the chain.
pub stating : (v : List ℕ) → AcceptedFacts v → (mark : ℕ → Bool) → ((i : ℕ) → mark i ≡ in_force v i)
    → (list : List ℕ) (found : ℕ) → ListedBelow mark record_limit list found (count v) → Stating v list found
stating v good mark marked list found l =
    record {
      few = listed-few mark record_limit list found (count v) l;
      within = λ j h. (sound j h).before;
      states = λ j h. sym (marked (get_or list j 0)) ∙ (sound j h).passes;
      finds = λ i c.
          let f = listed-finds mark record_limit list found (count v) l i (force_statement v good i c).within (marked i ∙ c) in
          any_intro (λ j. eqb (get_or list j 0) i) found f.0 f.1 (eq-eqb (get_or list f.0 0) i f.2);
    }
  where
    sound : (j : ℕ) → j < found → Entered mark (count v) (get_or list j 0)
    sound = listed-sound mark record_limit list found (count v) l

-- Tables, cut to what was listed in them, are what the data of a type is taken from.
module _ (v : List ℕ) (a b k : ℕ) (q : Comparable v a b k) where
  cut_stated : (statements : List ℕ) (found : ℕ) → Stating v statements found → Stating v (take found statements) found
  cut_stated statements found s =
      record {
        few = s.few;
        within = λ j h. rw (get_or-take found statements j 0 h) (s.within j h);
        states = λ j h. rw (get_or-take found statements j 0 h) (s.states j h);
        finds = λ i c.
            let f = any_elim (λ j. eqb (get_or statements j 0) i) found (s.finds i c) in
            any_intro (λ j. eqb (get_or (take found statements) j 0) i) found f.0 f.1
            (rw (get_or-take found statements f.0 0 f.1) f.2);
      }

  cut_placed : (places : List ℕ) → AtomsListed v places → AtomsListed v (take k places)
  cut_placed places p =
      record {
        within = λ j h. rw (at j h) (p.within j h);
        ranked = λ j h. rw (at j h) (p.ranked j h);
        finds = λ i h e. at (rank v i) (rank_below v i h e) ∙ p.finds i h e;
      }
    where
      at : (j : ℕ) → j < atoms v → get_or (take k places) j 0 ≡ get_or places j 0
      at j h = get_or-take k places j 0 (omega (arith, q.settles.counts))

  cut_listed : (list : List Restriction) (found : ℕ) → RestrictionsListed v list found
      → RestrictionsListed v (take found list) found
  cut_listed list found l =
      record { all = l.all; kept = λ m h. get_or-take found list m no_restriction h ∙ l.kept m h }

  pub prepared : (code : List Rule) → count v ≤ length code → Decoded v code
      → (places : List ℕ) → k ≤ length places → AtomsListed v places
      → (statements : List ℕ) (found : ℕ) → found ≤ length statements → Stating v statements found
      → (list : List Restriction) (bits : ℕ) → bits ≤ length list → RestrictionsListed v list bits
      → Prepared v a b (take (count v) code) (take k places) (take found statements) (take bits list)
  prepared code h d places i p statements found j s list bits m l =
      record {
        query = rw (length-take-le k places i) q;
        whole = length-take-le (count v) code h;
        decoded = λ n below. get_or-take (count v) code n no_rule below ∙ d n below;
        placed = cut_placed places p;
        stated = rw (length-take-le found statements j) (cut_stated statements found s);
        listed = rw (length-take-le bits list m) (cut_listed list bits l);
      }
