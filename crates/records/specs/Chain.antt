-- The chain of statements.
use Rattle.std.specs.Prelude.{ℕ, zero, suc, Bool, List, [], ◌∷◌}
use Rattle.records.specs.Finite.{occurs, last_or}
use Rattle.records.specs.Format.{record_at, count, first_statement}

-- "Chains run by next, and zero ends the chain.": the records from i on, at most n of them.
unfoldable pub follow : (ℕ → ℕ) → ℕ → ℕ → List ℕ
follow next zero i = []
follow next (suc n) zero = []
follow next (suc n) (suc i) = suc i ∷ follow next n (next (suc i))

abbrev pub next_statement : List ℕ → ℕ → ℕ
next_statement v i = (record_at v i).next

-- The statements from i on; a chain that rises ends before it has as many as there are records (proofs/Theorems/Chains.antt).
abbrev pub chain_from : List ℕ → ℕ → List ℕ
chain_from v i = follow (next_statement v) (count v) i

-- "A the first statement or 0"
abbrev pub chain : List ℕ → List ℕ
chain v = chain_from v (first_statement v)

-- Record i is a statement on the chain. "A statement off the chain is checked but states nothing."
abbrev pub chained : List ℕ → ℕ → Bool
chained v i = occurs i (chain v)

-- Record i is a statement of the vocabulary, as the crates above ask: "The statements of a vocabulary, here and in the demands,
-- are those on the chain." (Request 7 will make it: chained and not replaced.)
abbrev pub in_force : List ℕ → ℕ → Bool
in_force v i = chained v i

-- the last statement on the chain; the header, record 0, where there is none
abbrev pub chain_end : List ℕ → ℕ
chain_end v = last_or 0 (chain v)
