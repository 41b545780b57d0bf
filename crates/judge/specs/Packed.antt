-- One number for an outcome.
use Rattle.std.specs.Prelude.{ℕ, ◌+◌, ◌*◌, ◌^◌, Bool, true, false}
use Rattle.records.specs.Outcome.{Outcome, accepted, refused}
use Rattle.types.specs.declared.answers.Counts.{Counts}
use Rattle.types.specs.Comparison.{Verdict, equal, different}

-- Bits 0 to 7 are the refusal's number, 0 where there is none.
abbrev pub number_of : Outcome ℕ → ℕ
number_of (accepted value) = 0
number_of (refused number place) = number

-- Bits 8 to 39 are the place, or the value answered.
abbrev pub value_of : Outcome ℕ → ℕ
value_of (accepted value) = value
value_of (refused number place) = place

-- Other bits are 0.
abbrev pub packed : Outcome ℕ → ℕ
packed outcome = number_of outcome + 256 * value_of outcome

abbrev pub flag : Bool → ℕ
flag true = 1
flag false = 0

-- Bit 8 is 0 for Equal and 1 for Different; bits 9 to 24 the element, 25 to 41 the survivors, 42 to 58 the rounds.
abbrev pub packed_parts : Bool → ℕ → ℕ → ℕ → ℕ
packed_parts differs element survivors rounds = 2 ^ 8 * flag differs + 2 ^ 9 * element + 2 ^ 25 * survivors + 2 ^ 42 * rounds

-- The comparison's; a refusal as for the other calls.
abbrev pub packed_verdict : Outcome Verdict → ℕ
packed_verdict (accepted (equal survivors rounds)) = packed_parts false 0 survivors rounds
packed_verdict (accepted (different element survivors rounds)) = packed_parts true element survivors rounds
packed_verdict (refused number place) = number + 256 * place

-- The classification's: the counts in the same bits, and bits 8 to 24 are 0; a refusal as for the other calls.
abbrev pub packed_counts : Outcome Counts → ℕ
packed_counts (accepted counts) = packed_parts false 0 counts.survivors counts.rounds
packed_counts (refused number place) = number + 256 * place
