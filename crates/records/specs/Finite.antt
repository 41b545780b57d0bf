-- Generic definitions: searches, tables, lists, and numbers by their bits. No sentence of the paper speaks of them alone.
--   any_below, all_below, least, list_below   a test over the numbers below n
--   table, has, members                    values at the numbers below n; sets as tables
--   digit, bit, number                     truths as digits, numbers by their bits
--   occurs, without, is_nil, all_zero        lists
--   last_or, put                            the last of a list; a list with others over a part of it
--   in_record_order                          a value for each record, from those before it
use Rattle.std.specs.Prelude.{ℕ, zero, suc, ◌+◌, ◌*◌, ◌/◌, ◌%◌, ◌^◌, Bool, true, false, cond, ◌&&◌, ◌||◌, List, [], ◌∷◌, ◌++◌}
use Rattle.std.specs.Prelude.{length, get_or, take, drop, eqb}

-- 1 for true, 0 for false.
abbrev pub digit : Bool → ℕ
digit true = 1
digit false = 0

-- Whether a test holds at a number below n.
unfoldable pub any_below : (ℕ → Bool) → ℕ → Bool
any_below test zero = false
any_below test (suc n) = any_below test n || test n

-- Whether a test holds at every number below n.
unfoldable pub all_below : (ℕ → Bool) → ℕ → Bool
all_below test zero = true
all_below test (suc n) = all_below test n && test n

-- The smallest number below n at which a test holds; n if there is none.
unfoldable pub least : (ℕ → Bool) → ℕ → ℕ
least test zero = 0
least test (suc n) = cond (test 0) 0 (suc (least (λ i. test (suc i)) n))

-- The numbers below n that pass a test, in rising order.
abbrev pub append_if : Bool → List ℕ → ℕ → List ℕ
append_if b l n = cond b (l ++ (n ∷ [])) l

unfoldable pub list_below : (ℕ → Bool) → ℕ → List ℕ
list_below test zero = []
list_below test (suc n) = append_if (test n) (list_below test n) n

-- The values at 0 to n - 1.
unfoldable pub table : {A : Type 0} → ℕ → (ℕ → A) → List A
table zero f = []
table (suc n) f = f 0 ∷ table n (λ i. f (suc i))

-- A set of numbers, as a table of whether each is in it.
abbrev pub has : List Bool → ℕ → Bool
has S t = get_or S t false

-- How many are in a set.
unfoldable pub members : List Bool → ℕ
members [] = 0
members (b ∷ S) = digit b + members S

-- Bit j of a number, and the number of n bits.
unfoldable pub bit : ℕ → ℕ → Bool
bit x j = eqb (x / 2 ^ j % 2) 1

unfoldable pub number : ℕ → (ℕ → Bool) → ℕ
number zero bits = 0
number (suc n) bits = digit (bits 0) + 2 * number n (λ j. bits (suc j))

-- Whether a number occurs in a list.
unfoldable pub occurs : ℕ → List ℕ → Bool
occurs i [] = false
occurs i (x ∷ xs) = eqb i x || occurs i xs

-- A list without the entry at a position.
unfoldable pub without : {A : Type 0} → ℕ → List A → List A
without p [] = []
without zero (x ∷ l) = l
without (suc p) (x ∷ l) = x ∷ without p l

-- Whether a list is empty.
abbrev pub is_nil : {A : Type 0} → List A → Bool
is_nil [] = true
is_nil (x ∷ l) = false

-- Whether a list has nothing but zeros.
unfoldable pub all_zero : List ℕ → Bool
all_zero [] = true
all_zero (w ∷ ws) = eqb w 0 && all_zero ws

-- The last of a list, or d where it is empty.
unfoldable pub last_or : {A : Type 0} → A → List A → A
last_or d [] = d
last_or d (x ∷ l) = last_or x l

-- A list with others in the place of those from `at` on.
abbrev pub put : {A : Type 0} → List A → ℕ → List A → List A
put l at others = take at l ++ (others ++ drop (at + length others) l)

-- A value for each record, worked out in record order: from the values of the records before it.
unfoldable pub unrolled : {A : Type 0} → A → ((ℕ → A) → ℕ → A) → ℕ → ℕ → A
unrolled default rule zero i = default
unrolled default rule (suc n) i = rule (unrolled default rule n) i

abbrev pub in_record_order : {A : Type 0} → A → ((ℕ → A) → ℕ → A) → ℕ → A
in_record_order default rule i = unrolled default rule (suc i) i
