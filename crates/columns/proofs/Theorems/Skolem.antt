-- "In an interpretation that satisfies the statements and denies the query, the functions and a can be chosen so that no column
-- holds anywhere." The function of a record of kind 7 gives an element of B joined by its role, that of kind 8 one joined by it
-- and not in B, if there is one: these are the Skolem functions.
--   pick, pick_found, pick_keeps           the smallest number that passes a test, or else a given one
--   Shows, witness, witness_shows          an element that shows what a restriction says of d, if there is one
--   restriction-holds, restriction_gives   kinds 7 and 8 alike: what such an element tells, and when there is one
--   partner, partner_shows                 the value of a record's function at d is one
--   choice                                 the functions, and a
--   junction_none, restriction-none        the columns of kinds 5 and 6, and of kinds 7 and 8
--   construct_none, query-none             of any record that states something, and of the query
--   none-holds                             no column holds anywhere
-- Assumes nothing.
use Prim.Native.Nat.{ℕ, zero, suc, ◌<◌}
use native.Mathlib.Omega.{arith}
use native.Mathlib.Decide.{dec_lt}
use mathlib.Core.Path.{◌≡◌, refl, sym, ap, subst, ◌∙◌}
use mathlib.Core.Bool.{Bool, true, false, beq, cond, ◌&&◌}
use mathlib.Core.List.{List, []}
use borrow.Author.Tests.{not-true, not-false}
use Rattle.records.specs.Format.{record_at}
use Rattle.records.specs.Kinds.{Construct, none, top, bottom, name, negation, conjunction, disjunction, existential, universal}
use Rattle.records.specs.Kinds.{inclusion, construct_of, is_statement}
use Rattle.records.specs.Finite.{any_below, least}
use Rattle.records.specs.Chain.{in_force}
use Rattle.records.proofs.Laws.Tests.{clash, both_left, both_right, either_left, either_right, both_true, implies_rest}
use Rattle.records.proofs.Laws.Tests.{unless_true}
use Rattle.records.proofs.Laws.Search.{any_intro, any_elim}
use Rattle.records.proofs.Theorems.Accepted.{AcceptedFacts}
use Rattle.records.proofs.Laws.Lists.{All, all-entry}
use Rattle.records.proofs.Laws.Ranges.{statement-kind}
use Rattle.records.proofs.Theorems.Constructs.{stating, construct_statement, construct_inclusion}
use Rattle.types.specs.Meaning.{Interpretation, Element, Restriction, some, all, plain, restriction_of, restriction_at, evaluate}
use Rattle.types.specs.Meaning.{atom_at, belongs, Model}
use Rattle.records.proofs.Laws.Below.{least-holds, least-before}
use Rattle.types.proofs.Theorems.Truth.{belongs_eq}
use Rattle.types.proofs.Theorems.Witnesses.{Pair, some_holds, some_gives, all_gives, all_misses}
use Rattle.columns.specs.Literals.{concept, role}
use Rattle.columns.specs.Columns.{Column, columns_of, Query, query_columns, states, columns_at}
use Rattle.columns.specs.Code.Packed.{junction_group, restriction_group}
use Rattle.columns.specs.Holding.{Choice, column_holds, NoneHolds, Denied}
use Rattle.columns.proofs.Theorems.Holding.{is_beq, beq_is, lone_false, follows_false, joint_false}

pick : (ℕ → Bool) → ℕ → ℕ → ℕ
pick test n d = cond (any_below test n) (least test n) d

least_found : (test : ℕ → Bool) (n i : ℕ) → i < n → test i ≡ true → (least test n < n) × (test (least test n) ≡ true)
least_found test n i h e = at (dec_lt (least test n) n)
  where
    at : Dec (least test n < n) → (least test n < n) × (test (least test n) ≡ true)
    at (yes l) = (l, least-holds n test l)
    at (no m) = let misses = least-before n test i (omega arith) in absurd (clash (cc))

pick_found : (test : ℕ → Bool) (n d i : ℕ) → i < n → test i ≡ true → (pick test n d < n) × (test (pick test n d) ≡ true)
unfolding pick
pick_found test n d i h e = rw (any_intro test n i h e) (least_found test n i h e)

pick_keeps : (P : ℕ → Type 0) (test : ℕ → Bool) (n d : ℕ) → P d → ((i : ℕ) → i < n → test i ≡ true → P i) → P (pick test n d)
unfolding pick
pick_keeps P test n d p h = at (any_below test n) refl
  where
    at : (b : Bool) → any_below test n ≡ b → P (cond b (least test n) d)
    at true q =
        let f = any_elim test n q in
        let l = least_found test n f.0 f.1 f.2 in
        h (least test n) l.0 l.1
    at false q = p

-- Kinds 7 and 8 alike: some role r to b by `true`, all role r to b by `false`.
abbrev restriction : Bool → ℕ → ℕ → Restriction
restriction true r b = some r b
restriction false r b = all r b

-- e is joined to d by role r, and in b or not as the sign says.
record Shows (I : Interpretation) (v : List ℕ) (s : Bool) (r b d e : ℕ) : Type 0 where
  pair : Pair I r d e
  filler : belongs I v b e ≡ s

module _ (I : Interpretation) (v : List ℕ) (s : Bool) (r b d : ℕ) where
  abbrev suits : ℕ → Bool
  suits e = beq s (belongs I v b e)

  abbrev shows : ℕ → Bool
  shows e = I.domain e && (I.roles r d e && suits e)

  shows-true : (e : ℕ) → Shows I v s r b d e → shows e ≡ true
  shows-true e h =
      both_true (I.domain e) (I.roles r d e && suits e) h.pair.element.inside
      (both_true (I.roles r d e) (suits e) h.pair.joined (is_beq s (belongs I v b e) h.filler))

  true-shows : (e : ℕ) → e < I.bound → shows e ≡ true → Shows I v s r b d e
  true-shows e l h =
      let inside = both_left (I.domain e) (I.roles r d e && suits e) h in
      let rest = both_right (I.domain e) (I.roles r d e && suits e) h in
      record {
        pair = record {
          element = record { below = l; inside = inside };
          joined = both_left (I.roles r d e) (suits e) rest;
        };
        filler = beq_is s (belongs I v b e) (both_right (I.roles r d e) (suits e) rest);
      }

  -- an element that shows it, if there is one, or else d
  abbrev witness : ℕ
  witness = pick shows I.bound d

  witness_stays : Element I d → Element I witness
  witness_stays at = pick_keeps (Element I) shows I.bound d at (λ e l h. (true-shows e l h).pair.element)

  witness_shows : (e : ℕ) → Shows I v s r b d e → Shows I v s r b d witness
  witness_shows e h =
      let found = pick_found shows I.bound d e h.pair.element.below (shows-true e h) in
      true-shows witness found.0 found.1

module _ (I : Interpretation) (v : List ℕ) where
  abbrev partner : ℕ → Restriction → ℕ
  partner d (some r b) = witness I v true r b d
  partner d (all r b) = witness I v false r b d
  partner d plain = d

  partner_witness : (d : ℕ) (s : Bool) (r b : ℕ) → partner d (restriction s r b) ≡ witness I v s r b d
  partner_witness d true r b = refl
  partner_witness d false r b = refl

  partner_stays : (d : ℕ) (k : Restriction) → Element I d → Element I (partner d k)
  partner_stays d (some r b) at = witness_stays I v true r b d at
  partner_stays d (all r b) at = witness_stays I v false r b d at
  partner_stays d plain at = at

  abbrev choice : (q : Query) → Denied I v q → Choice I
  choice q denied =
      record {
        function = λ i d. partner d (restriction_at v i);
        chosen = denied.element;
        stays = λ i d at. partner_stays d (restriction_at v i) at;
        inside = denied.inside;
      }

module _ (I : Interpretation) (v : List ℕ) (good : AcceptedFacts v) (i d : ℕ) where
  -- A restriction says what an element shows of it, and if it is as the sign says, some element shows it.
  restriction-holds : (s : Bool) (r b e : ℕ) → restriction_at v i ≡ restriction s r b
      → Pair I r d e → belongs I v b e ≡ s → belongs I v i d ≡ s
  restriction-holds true r b e m p h = some_holds v good I i d r b m e p h
  restriction-holds false r b e m p h =
      unless_true (belongs I v i d) (λ q. let inside = all_gives v good I i d r b m q e p in clash (cc))

  restriction_gives : (s : Bool) (r b : ℕ) → restriction_at v i ≡ restriction s r b → belongs I v i d ≡ s
      → (e : ℕ) × Pair I r d e × (belongs I v b e ≡ s)
  restriction_gives true r b m h = some_gives v good I i d r b m h
  restriction_gives false r b m h = all_misses v good I i d r b m h

  partner_shows : (s : Bool) (r b : ℕ) → restriction_at v i ≡ restriction s r b → belongs I v i d ≡ s
      → Shows I v s r b d (partner I v d (restriction_at v i))
  partner_shows s r b m h =
      let f = restriction_gives s r b m h in
      subst (Shows I v s r b d) (sym (ap (partner I v d) m ∙ partner_witness I v d s r b))
      (witness_shows I v s r b d f.0 record { pair = f.1; filler = f.2 })

module _ (v : List ℕ) (good : AcceptedFacts v) (q : Query) (I : Interpretation) (model : Model I v) (denied : Denied I v q) where
  abbrev Fails : ℕ → ℕ → ℕ → Column → Type 0
  Fails owner d e c = column_holds I (choice I v q denied) v owner d e c ≡ false

  module _ (i d e : ℕ) (at : Element I d) (to : Element I e) where
    belongs-says : (c : Construct) → construct_of (record_at v i) ≡ c
        → belongs I v i d ≡ evaluate c (atom_at I i (restriction_of c) (belongs I v) d) (λ j. belongs I v j d)
    belongs-says c m =
        belongs_eq v good I i d
        ∙ ap (λ (c : Construct). evaluate c (atom_at I i (restriction_of c) (belongs I v) d) (λ j. belongs I v j d)) m

    junction_none : (s : Bool) (j k : ℕ) → (belongs I v i d ≡ s → belongs I v j d ≡ s)
        → (belongs I v i d ≡ s → belongs I v k d ≡ s)
        → (belongs I v j d ≡ s → belongs I v k d ≡ s → belongs I v i d ≡ s) → All (Fails i d e) (junction_group s i j k)
    junction_none s j k first second both = (
      follows_false I v (concept s i d) (concept s j d) first,
      (
        follows_false I v (concept s i d) (concept s k d) second,
        (joint_false I v (concept s i d) (concept s j d) (concept s k d) both, tt),
      ),
    )

    restriction-none : (s : Bool) (r j : ℕ) → restriction_at v i ≡ restriction s r j
        → All (Fails i d e) (restriction_group s i r j)
    restriction-none s r j m =
        let f = partner I v d (restriction_at v i) in (
          follows_false I v (concept s i d) (role true r d f) (λ h. (partner_shows I v good i d s r j m h).pair.joined),
          (
            follows_false I v (concept s i d) (concept s j f) (λ h. (partner_shows I v good i d s r j m h).filler),
            (
              joint_false I v (concept s i d) (role true r d e) (concept s j e)
                  (λ h. restriction-holds I v good i d s r j e m record { element = to; joined = h }),
              tt,
            ),
          ),
        )

    inclusion_within : (j k : ℕ) → construct_of (record_at v i) ≡ inclusion j k → states v i ≡ true
        → belongs I v j d ≡ true → belongs I v k d ≡ true
    inclusion_within j k m stated h =
        let statement = construct_statement (record_at v i) ∙ ap stating m in
        let says = sym (construct_inclusion (record_at v i) (statement-kind (record_at v i).kind statement)) ∙ m in
        let first : (record_at v i).a ≡ j = cc in
        let second : (record_at v i).b ≡ k = cc in
        let within = model.satisfied i (implies_rest (is_statement (record_at v i).kind) (in_force v i) stated statement) d at in
        rw (first, second) at within h

    construct_none : (c : Construct) → construct_of (record_at v i) ≡ c → states v i ≡ true → All (Fails i d e) (columns_of i c)
    construct_none none m stated = tt
    construct_none top m stated = (lone_false I v (concept true i d) (belongs-says top m), tt)
    construct_none bottom m stated = (lone_false I v (concept false i d) (belongs-says bottom m), tt)
    construct_none name m stated = tt
    construct_none (negation j) m stated =
        let says = belongs-says (negation j) m in (
          follows_false I v (concept true i d) (concept false j d) (λ h. not-true (belongs I v j d) (sym says ∙ h)),
          (follows_false I v (concept false i d) (concept true j d) (λ h. not-false (belongs I v j d) (sym says ∙ h)), tt),
        )
    construct_none (conjunction j k) m stated =
        let says = belongs-says (conjunction j k) m in
        junction_none true j k
        (λ h. both_left (belongs I v j d) (belongs I v k d) (sym says ∙ h))
        (λ h. both_right (belongs I v j d) (belongs I v k d) (sym says ∙ h))
        (λ g h. says ∙ both_true (belongs I v j d) (belongs I v k d) g h)
    construct_none (disjunction j k) m stated =
        let says = belongs-says (disjunction j k) m in
        junction_none false j k
        (λ h. either_left (belongs I v j d) (belongs I v k d) (sym says ∙ h))
        (λ h. either_right (belongs I v j d) (belongs I v k d) (sym says ∙ h))
        (λ g h. says ∙ rw (g, h))
    construct_none (existential r j) m stated = restriction-none true r j (ap restriction_of m)
    construct_none (universal r j) m stated = restriction-none false r j (ap restriction_of m)
    construct_none (inclusion j k) m stated =
        (follows_false I v (concept true j d) (concept true k d) (inclusion_within j k m stated), tt)

    stated-none : (b : Bool) → states v i ≡ b → All (Fails i d e) (cond b (columns_of i (construct_of (record_at v i))) [])
    stated-none true stated = construct_none (construct_of (record_at v i)) refl stated
    stated-none false stated = tt

  query-none : (d e : ℕ) → All (Fails 0 d e) (query_columns q)
  query-none d e = (
    lone_false I v (concept true q.a denied.element) denied.first,
    (lone_false I v (concept false q.b denied.element) denied.second, tt),
  )

  columns_none : (owner d e : ℕ) → Element I d → Element I e → All (Fails owner d e) (columns_at v q owner)
  unfolding columns_at
  columns_none zero d e at to = query-none d e
  columns_none (suc i) d e at to = stated-none (suc i) d e at to (states v (suc i)) refl

pub none-holds : (v : List ℕ) (good : AcceptedFacts v) (q : Query) (I : Interpretation) → Model I v → Denied I v q
    → (k : Choice I) × NoneHolds I k v q
none-holds v good q I model denied = (
  choice I v q denied,
  λ owner n d e at to h.
      all-entry (Fails v good q I model denied owner d e) (columns_at v q owner) []
      (columns_none v good q I model denied owner d e at to) n h,
)
