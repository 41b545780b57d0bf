-- That the meets say which names are broader.
--   joint_meet                 the meet of the types that have a bit, from the meets by a part of the bits that has it
--   atom_meet                  the same by the half that has it
--   meets_above                the words of the names say which names are broader
-- Assumes nothing.
use Prim.Native.Nat.{ℕ, ◌+◌, ◌-◌, ◌≤◌, ◌<◌}
use native.Mathlib.Omega.{arith}
use native.Mathlib.Decide.{dec_lt}
use mathlib.Core.Path.{◌≡◌, refl, sym, ap, ap₂, ◌∙◌}
use mathlib.Core.Bool.{Bool, true, not, ◌&&◌, ◌||◌}
use mathlib.Core.List.{List}
use lib.Dec.{eqb}
use lib.ListN.{get_or}
use borrow.Author.Tests.{eq-eqb, eqb-true, lt-ltb, le-ltb}
use Rattle.records.specs.Format.{record_at, count}
use Rattle.records.specs.Kinds.{is_atom}
use Rattle.records.specs.Atoms.{rank}
use Rattle.records.specs.Finite.{all_below, has, bit}
use Rattle.records.proofs.Laws.Below.{all_intro, all_at, all_cong}
use Rattle.records.proofs.Laws.Tests.{both_left, both_right, both_true, implies_true, implies_rest, same_truth}
use Rattle.records.proofs.Laws.Width.{bit-low, bit_high}
use Rattle.records.proofs.Theorems.Accepted.{accepted-vocabulary}
use Rattle.types.specs.Types.{types}
use Rattle.types.specs.Survivors.{survivors}
use Rattle.types.specs.Comparison.{atom_limit, type_limit}
use Rattle.types.specs.Code.Words.{SameSet}
use Rattle.types.specs.Code.Settling.{Settleable}
use Rattle.types.proofs.Theorems.Survivors.{types-bound}
use Rattle.types.proofs.Theorems.Truth.{truth_atom}
use Rattle.taxonomy.specs.Taxonomy.{name_at, broader}
use Rattle.taxonomy.specs.Code.Meets.{half_bits, halves, always, Meets, low, high, jointly, jointly_by}
use Rattle.taxonomy.specs.Code.Meets.{MeetsListed, Above}
use Rattle.taxonomy.specs.Code.Names.{NamesListed}
use Rattle.taxonomy.specs.declared.names.Names.{Names}
use Rattle.taxonomy.proofs.Theorems.Names.{name_facts}

-- Bit p of a type is bit j of its part.
module _ (part : ℕ → ℕ) (S : List Bool) (n : ℕ) (table : List ℕ) (m : Meets part S n table)
    (small : (t : ℕ) → t < n → part t < halves) (j p : ℕ) (same : (t : ℕ) → bit (part t) j ≡ bit t p) where
  -- what each of the two sides asks, and what an entry of the table tells
  abbrev joint : ℕ → ℕ → Bool
  joint q x = not (bit x j) || bit (get_or table x 0) q

  abbrev sharing : ℕ → ℕ → Bool
  sharing q t = not (has S t && bit t p) || bit t q

  abbrev valued : ℕ → ℕ → ℕ → Bool
  valued x q t = not (has S t && eqb (part t) x) || bit t q

  shared : (q : ℕ) → q < atom_limit → all_below (joint q) halves ≡ true → (t : ℕ) → t < n → sharing q t ≡ true
  shared q h e t l = implies_true (has S t && bit t p) (bit t q) (λ both.
      let x = part t in
      let has-t = both_left (has S t) (bit t p) both in
      let b = same t ∙ both_right (has S t) (bit t p) both in
      let met = implies_rest (bit x j) (bit (get_or table x 0) q) (all_at (joint q) halves e x (small t l)) b in
      implies_rest (has S t && eqb x x) (bit t q) (all_at (valued x q) n (sym (m.meet_at x (small t l) q h) ∙ met) t l)
      (both_true (has S t) (eqb x x) has-t (eq-eqb x x refl)))

  entered : (q : ℕ) → q < atom_limit → all_below (sharing q) n ≡ true → (x : ℕ) → x < halves → joint q x ≡ true
  entered q h e x l = implies_true (bit x j) (bit (get_or table x 0) q) (λ b.
      m.meet_at x l q h ∙ all_intro (valued x q) n (λ t less. implies_true (has S t && eqb (part t) x) (bit t q) (λ both.
      let has-t = both_left (has S t) (eqb (part t) x) both in
      let at_x = eqb-true (part t) x (both_right (has S t) (eqb (part t) x) both) in
      let b-t : bit t p ≡ true = sym (same t) ∙ ap (λ (y : ℕ). bit y j) at_x ∙ b in
      implies_rest (has S t && bit t p) (bit t q) (all_at (sharing q) n e t less) (both_true (has S t) (bit t p) has-t b-t))))

  pub joint_meet : (q : ℕ) → q < atom_limit → jointly table j halves q ≡ always (λ t. has S t && bit t p) n q
  joint_meet q h =
      same_truth (all_below (joint q) halves) (all_below (sharing q) n) (λ e. all_intro (sharing q) n (shared q h e))
      (λ e. all_intro (joint q) halves (entered q h e))

module _ (S : List Bool) (n : ℕ) (few : n ≤ type_limit) (lows highs : List ℕ) (l : Meets low S n lows)
    (h : Meets high S n highs) where
  pub atom_meet : (p q : ℕ) → q < atom_limit → jointly_by lows highs p q ≡ always (λ t. has S t && bit t p) n q
  atom_meet p q less = at (dec_lt p half_bits)
    where
      at : Dec (p < half_bits) → jointly_by lows highs p q ≡ always (λ t. has S t && bit t p) n q
      at (yes k) =
          rw (lt-ltb p half_bits k)
          (joint_meet low S n lows l (λ t b. omega arith) p p (λ t. bit-low half_bits t p k) q less)
      at (no k) =
          let sum : half_bits + (p - half_bits) ≡ p = omega arith in
          rw (le-ltb p half_bits (omega arith))
          (joint_meet high S n highs h (λ t b. omega arith) (p - half_bits) p
          (λ t. bit_high half_bits t (p - half_bits) ∙ ap (bit t) sum) q less)

module _ (v : List ℕ) (k : ℕ) (s : Settleable v k) (names : Names) (listed : NamesListed v names) (alive : List Bool)
    (same : SameSet alive (survivors v)) where
  -- the meet of the survivors at which name a is true says whether name b is broader
  above : (a b : ℕ) → is_atom (record_at v a).kind ≡ true → is_atom (record_at v b).kind ≡ true
      → always (λ t. has alive t && bit t (rank v a)) (types v) (rank v b) ≡ broader v a b
  unfolding broader
  above a b x y =
      let good = accepted-vocabulary v (count v) s.accepts in
      all_cong _ _ (types v) (λ t l. ap₂ (λ (f g : Bool). not f || g)
      (ap₂ (λ (f g : Bool). f && g) (same t) (sym (truth_atom v good t a x))) (sym (truth_atom v good t b y)))

  pub meets_above : (lows highs meets : List ℕ) → Meets low alive (types v) lows → Meets high alive (types v) highs
      → MeetsListed lows highs names.atoms names.count meets → Above v meets
  meets_above lows highs meets l h right i j less less-j =
      let a = name_facts v i less in
      let b = name_facts v j less-j in
      let q = rank v (name_at v j) in
      let small : q < atom_limit = omega (arith, b.below, s.few) in
      right i q (omega (arith, listed.all)) small
      ∙ ap (λ (p : ℕ). jointly_by lows highs p q) (listed.atom_at_lem i less)
      ∙ atom_meet alive (types v) (types-bound v s.few) lows highs l h (rank v (name_at v i)) q small
      ∙ above (name_at v i) (name_at v j) a.atom b.atom
