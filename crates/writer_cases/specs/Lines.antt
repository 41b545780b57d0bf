-- What the program reads of a case, and the line that it writes.
use Rattle.std.specs.Prelude.{ℕ, ◌+◌, ◌*◌, ◌/◌, ◌%◌, ◌^◌, ◌<◌, ◌≤◌, ◌==◌, Bool, true, false, not, ◌&&◌, List, [], ◌∷◌, ◌++◌}
use Rattle.std.specs.Prelude.{length, take, drop, if◌then◌else◌}
use lib.Chars.{codes}
use Rattle.records.specs.Outcome.{Outcome, accepted, refused}
use Rattle.writer.specs.Additions.{term, statement}
use Rattle.writer.specs.Calls.{making, adding, new_length, buffer_after}
use Rattle.lent.specs.Told.{pair_bytes, quad_bytes, number_text, hex_pair, filled, sums_text}

pub record Case : Type 0 where
  pub lent : ℕ
  pub seed : ℕ
  pub call : ℕ
  pub kind : ℕ
  pub a : ℕ
  pub b : ℕ
  pub used : ℕ
  pub beginning : List ℕ

-- there is room for what the buffer begins with and for what is lent behind it, and eight bytes hold the length in use
abbrev pub Fits : Case → Type 0
Fits c = (length c.beginning + c.lent ≤ 8192) × (c.used < 2 ^ 64)

-- a number in eight bytes, low byte first
abbrev pub eight_bytes : ℕ → List ℕ
eight_bytes n = quad_bytes (n % 2 ^ 32) ++ quad_bytes (n / 2 ^ 32)

-- the length of what the buffer begins with, the number of bytes lent behind it, their seed, the call, the kind, A and B, the
-- length in use, and what the buffer begins with
abbrev pub case_bytes : Case → List ℕ
case_bytes c = pair_bytes (length c.beginning) ++ pair_bytes c.lent ++ (c.seed ∷ c.call ∷ c.kind ∷ []) ++ pair_bytes c.a
    ++ pair_bytes c.b
    ++ eight_bytes c.used ++ c.beginning

-- the answer's word and its numbers
abbrev pub answer_text : Outcome ℕ → List ℕ
answer_text (accepted size) = codes "length " ++ number_text size 32
answer_text (refused number place) = codes "refused " ++ number_text number 32 ++ number_text place 32

-- a byte that changed, after its place and a colon where the byte before it did not change; where it did not change itself, a
-- space that ends what was written before it
abbrev pub place_text : ℕ → ℕ → ℕ → Bool → List ℕ
place_text place old new inside =
    if old == new then (if inside then 32 ∷ [] else []) else (if inside then [] else number_text place 58) ++ hex_pair new

-- a dash where no byte changed, and a space where the last byte did, or none
abbrev pub end_text : Bool → Bool → List ℕ
end_text none inside = (if none then 45 ∷ 32 ∷ [] else []) ++ (if inside then 32 ∷ [] else [])

-- what is written of the bytes from a place on, after whether none changed before it, and whether the last did
abbrev pub changes_from : ℕ → Bool → Bool → List ℕ → List ℕ → List ℕ
changes_from place none inside [] ys = end_text none inside
changes_from place none inside (x ∷ xs) [] = end_text none inside
changes_from place none inside (x ∷ xs) (y ∷ ys) = place_text place x y inside
    ++ changes_from (place + 1) (none && (x == y)) (not (x == y)) xs ys

abbrev pub changes_text : List ℕ → List ℕ → List ℕ
changes_text before after = changes_from 0 true false before after

-- a call of the writer in a buffer: 0 makes a vocabulary, whose role count is A and B in one, 1 adds a term, and 2 a statement
abbrev pub called : List ℕ → ℕ → ℕ → ℕ → ℕ → ℕ → Outcome (List ℕ)
called buffer used call kind a b = if call == 0 then making (length buffer) (a + 65536 * b)
    else adding buffer used (if call == 1 then term kind a b else statement a b)

-- the answer of a call, the bytes of the buffer that it changed, and two sums over all of them
abbrev pub line_text : List ℕ → List ℕ → Outcome (List ℕ) → List ℕ
line_text before buffer outcome = answer_text (new_length outcome) ++ changes_text before (buffer_after outcome buffer)
    ++ sums_text (buffer_after outcome buffer) 10

-- the space before the call: what the buffer begins with, over what is lent
abbrev pub space_of : Case → List ℕ
space_of c = c.beginning ++ drop (length c.beginning) (filled 8192 c.seed)

abbrev pub case_line : Case → List ℕ
case_line c = line_text (space_of c) (take (length c.beginning + c.lent) (space_of c))
    (called (take (length c.beginning + c.lent) (space_of c)) c.used c.call c.kind c.a c.b)
