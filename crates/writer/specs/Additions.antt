-- What is added to a vocabulary, the bytes in use with it, and what reading shows.
use Rattle.std.specs.Prelude.{ℕ, suc, ◌+◌, ◌-◌, ◌*◌, cond, ◌&&◌, List, [], ◌∷◌, ◌++◌, map, eqb}
use Rattle.records.specs.Finite.{put, table}
use Rattle.records.specs.Format.{record_size, place_of_a, place_of_next, word_bytes, record_bytes, record_at, count, edition}
use Rattle.records.specs.Kinds.{is_atom, is_statement}
use Rattle.records.specs.Atoms.{atoms}
use Rattle.records.specs.Chain.{chain, chain_end}
use Rattle.records.specs.declared.fields.Record.{Record}

-- "others add a term .. or a statement": a term by kind, A and B, a statement by A and B.
pub data Addition : Type 0 where
  term : ℕ → ℕ → ℕ → Addition
  statement : ℕ → ℕ → Addition

-- The new record; "Other records have second byte 0", and nothing comes after it on the chain.
abbrev pub record_with : ℕ → ℕ → ℕ → Record
record_with kind a b = record { kind = kind; second = 0; a = a; b = b; next = 0 }

abbrev pub new_record : Addition → Record
new_record (term kind a b) = record_with kind a b
new_record (statement a b) = record_with 9 a b

-- "a statement at the end of the chain": where the link stands that reaches it, in the next of the last chained statement or,
-- where there is none, in the header's A.
abbrev pub link_place : List ℕ → ℕ
link_place v = record_size * chain_end v + cond (eqb (chain_end v) 0) place_of_a place_of_next

abbrev pub relinked : Addition → List ℕ → List ℕ
relinked (term kind a b) v = v
relinked (statement a b) v = put v (link_place v) (word_bytes (count v))

-- The bytes in use with the addition: "only the new record, and the link that reaches it, change".
abbrev pub linked : List ℕ → Addition → List ℕ
linked v x = relinked x v ++ record_bytes (new_record x)

-- Slip 5: "The writer makes edition 2, and an addition there may also change the header's k.": an atom does. "Edition 1 is still
-- read, and additions to it keep it edition 1."
abbrev pub recounted : Addition → List ℕ → List ℕ
recounted (term kind a b) w = cond (eqb (edition w) 2 && is_atom kind) (put w place_of_next (word_bytes (atoms w))) w
recounted (statement a b) w = w

unfoldable pub grown : List ℕ → Addition → List ℕ
grown v x = recounted x (linked v x)

-- "reading the buffer shows exactly those terms and statements in their order": what a record shows, and all from 1 on.
abbrev pub shown : Record → Addition
shown r = cond (is_statement r.kind) (statement r.a r.b) (term r.kind r.a r.b)

unfoldable pub contents : List ℕ → List Addition
contents v = table (count v - 1) (λ i. shown (record_at v (suc i)))

-- The statements on the chain, in its order, and those among additions.
unfoldable pub stated : List ℕ → List Addition
stated v = map (λ i. shown (record_at v i)) (chain v)

unfoldable pub statements_of : List Addition → List Addition
statements_of [] = []
statements_of (term kind a b ∷ l) = statements_of l
statements_of (statement a b ∷ l) = statement a b ∷ statements_of l
