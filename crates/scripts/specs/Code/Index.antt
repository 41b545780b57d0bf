-- What the code computes with: the index of terms. It is a digital search tree for each inner term, whose nodes are origins:
-- the way to a code begins at the root of its inner term's tree and branches by the code's bits, from the lowest on.
use Rattle.std.specs.Prelude.{ℕ, zero, suc, ◌+◌, ◌*◌, ◌/◌, ◌%◌, ◌^◌, ◌≤◌, ◌<◌, ◌≡◌, Bool, true, false, not, ◌&&◌, List, length}
use Rattle.std.specs.Prelude.{get_or, set, eqb}
use Rattle.columns.specs.Code.Packed.{term_limit}
use Rattle.scripts.specs.Format.{entry_at, entries}
use Rattle.scripts.specs.Code.Codes.{TermRecord, origin, IsOrigin, function_limit, code_at}

-- A term's code, and its origin above it, in one number.
abbrev pub number_of : ℕ → ℕ → ℕ
number_of code first = code + term_limit * first

abbrev pub code_in : List ℕ → ℕ → ℕ
code_in terms n = get_or terms n 0 % term_limit

abbrev pub origin_in : List ℕ → ℕ → ℕ
origin_in terms n = get_or terms n 0 / term_limit

-- No term record stands at `end` or after it.
abbrev pub TermsBefore : List ℕ → ℕ → Type 0
TermsBefore s end = (n : ℕ) → TermRecord s n → n < end

-- The table has the numbers of the terms before record i; no number stands at the header, which stands for no term.
pub record NumberedBelow (s terms : List ℕ) (i : ℕ) : Type 0 where
  pub room : TermsBefore s (length terms)
  pub header : get_or terms 0 0 ≡ 0
  pub numbers : (n : ℕ) → n < i → TermRecord s n → get_or terms n 0 ≡ number_of (code_at s n) (origin s n)

abbrev pub AllNumbered : List ℕ → List ℕ → Type 0
AllNumbered s terms = NumberedBelow s terms (entries s)

-- A record has three links: to the root of the tree of the terms that it is the inner term of, and to its two children. A
-- link has the number of a record; 0 is none.
abbrev pub link_count : ℕ
link_count = 3

abbrev pub linked : List ℕ → ℕ → ℕ
linked links slot = get_or links slot 0

-- Tables with room for the terms of a script: no link yet, and no number at the header.
pub record Blank (s links terms : List ℕ) : Type 0 where
  pub room : TermsBefore s (length terms)
  pub some : 1 < length terms
  pub size : length links ≡ link_count * length terms
  pub empty : (slot : ℕ) → linked links slot ≡ 0
  pub header : get_or terms 0 0 ≡ 0

-- The slot of the link after n records on the way to a code.
unfoldable pub slot_at : List ℕ → ℕ → ℕ → ℕ
slot_at links code zero = link_count * (code / function_limit)
slot_at links code (suc n) = link_count * linked links (slot_at links code n) + 1 + code / 2 ^ n % 2

-- The way to a code leads over n records.
abbrev pub LeadsOver : List ℕ → ℕ → ℕ → Type 0
LeadsOver links code n = (m : ℕ) → m < n → 0 < linked links (slot_at links code m)

-- Record j is met on the way to a code.
pub record Met (links : List ℕ) (code j : ℕ) : Type 0 where
  pub steps : ℕ
  pub over : LeadsOver links code steps
  pub here : linked links (slot_at links code steps) ≡ j

-- Links lead to later records, for which the tables have room, so each way ends. No record is linked twice, and each is met on
-- the way to its code.
pub record Tree (links terms : List ℕ) : Type 0 where
  pub size : length links ≡ link_count * length terms
  pub later : (slot : ℕ) → 0 < linked links slot → slot < link_count * linked links slot
  pub within : (slot : ℕ) → 0 < linked links slot → linked links slot < length terms
  pub apart : (p q : ℕ) → 0 < linked links p → linked links p ≡ linked links q → p ≡ q
  pub met : (slot : ℕ) → 0 < linked links slot → Met links (code_in terms (linked links slot)) (linked links slot)

-- A slot's record is of another code, so that a search goes on.
abbrev pub passes : List ℕ → List ℕ → ℕ → ℕ → Bool
passes links terms code slot =
    not (eqb (linked links slot) 0) && not (eqb (code_in terms (linked links slot)) code)

-- A search for a code has come to a slot, over n records of other codes.
pub record CameTo (links terms : List ℕ) (code slot n : ℕ) : Type 0 where
  pub place : slot ≡ slot_at links code n
  pub over : (m : ℕ) → m < n → passes links terms code (slot_at links code m) ≡ true

-- It ended there, at no record, or at one of that code. However many records there are, it came over no more than a function has
-- bits.
abbrev pub function_bits : ℕ
function_bits = 9

pub record Found (links terms : List ℕ) (code slot : ℕ) : Type 0 where
  pub steps : ℕ
  pub few : steps ≤ function_bits
  pub came : CameTo links terms code slot steps
  pub ended : passes links terms code slot ≡ false

-- Record i is entered under a code: the record that the search ended at is the origin; where it ended at none, record i is,
-- and is linked there.
pub data Entered (links terms : List ℕ) (code i : ℕ) : List ℕ → ℕ → Type 0 where
  known : (slot : ℕ) → Found links terms code slot → 0 < linked links slot → Entered links terms code i links (linked links slot)
  new : (slot : ℕ) → Found links terms code slot → linked links slot ≡ 0 → Entered links terms code i (set links slot i) i

-- The origins before record i, but for the constant's, are in the index, and nothing else is.
pub record IndexedBelow (s links terms : List ℕ) (i : ℕ) : Type 0 where
  pub table : NumberedBelow s terms i
  pub tree : Tree links terms
  pub before : (slot : ℕ) → 0 < linked links slot → linked links slot < i
  pub nodes : (slot : ℕ) → 0 < linked links slot → IsOrigin s (linked links slot)
  pub entered : (n : ℕ) → n < i → (entry_at s n).w0 ≡ 2 → IsOrigin s n → (slot : ℕ) × (linked links slot ≡ n)
