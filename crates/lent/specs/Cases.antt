-- What it is to run one case after another: each has its bytes, which stand in the input, and its line, which is written.
use Rattle.std.specs.Prelude.{◌≡◌, ◌≢◌, ℕ, ◌-◌, ◌^◌, ◌<◌, Bool, List, ◌++◌, length, All, IfSome, MatchBool, Option}
use Rattle.std.specs.List.{flat_map}
use Rattle.std.specs.Io.KnownBytes.{Appends, Consumes, Keeps}

-- no case that fits stands at the front
abbrev pub HasNoCase : {C : Type 0} → (C → Type 0) → (C → List ℕ) → List ℕ → Type 0
HasNoCase {C} Fits bytes xs = (c : C) (rest : List ℕ) → Fits c → xs ≢ bytes c ++ rest

-- a case was taken from the front of the input and its line written; or none stood there, and nothing was written
abbrev pub RunsCase : {C : Type 0} → (C → Type 0) → (C → List ℕ) → (C → List ℕ) → Option (List ℕ) → Option (List ℕ)
    → Option (List ℕ) → Option (List ℕ) → Bool → Type 0
RunsCase {C} Fits bytes line old new before after whole = MatchBool whole
    ((c : C) × Fits c × Consumes old new (bytes c) × Appends before after (line c))
    (IfSome old (HasNoCase Fits bytes) × Keeps before after)

-- the input is cases, whose lines were written, and a rest with none at its front; a run ends after 2 ^ 64 - 1 cases all the same
abbrev pub RunsCases : {C : Type 0} → (C → Type 0) → (C → List ℕ) → (C → List ℕ) → Option (List ℕ) → Option (List ℕ) → List ℕ
    → Type 0
RunsCases {C} Fits bytes line before after xs = (cases : List C) × (rest : List ℕ) × All Fits cases
    × (xs ≡ flat_map bytes cases ++ rest)
    × (length cases < 2 ^ 64 - 1 → HasNoCase Fits bytes rest) × Appends before after (flat_map line cases)
