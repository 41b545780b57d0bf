-- Paper 01, "Meaning", "Types and comparison" and rows 10 to 12 of "Refusals", in the paper's order:
-- Meaning (interpretations, terms, statements), Types (truth at a type, allowed, served), Survivors (rounds), Comparison (the
-- call's answer), Bitmap (what it writes, and how that is read back).
-- Answers says which outcome the enum of the code stands for. Code has what only the code computes with.
pub mod Meaning
pub mod Types
pub mod Survivors
pub mod Comparison
pub mod Bitmap
pub mod Answers
pub mod Code
