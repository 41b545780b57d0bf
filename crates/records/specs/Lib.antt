-- Finite (generic definitions). Then paper 01, in the order of its sections: of "Vocabulary records" Format (bytes), Kinds
-- (terms, statements, fields) and Chain (the statements that state something); of "Types and comparison" Atoms (atoms and
-- their count); of "Refusals" Outcome (what a call may answer), Check (rows 1 to 8, and 28 of paper 02) and Call
-- (row 9).
-- Refusals says which outcome the answer of a call stands for. Code has what only the code computes with.
pub mod Finite
pub mod Format
pub mod Kinds
pub mod Chain
pub mod Atoms
pub mod Outcome
pub mod Check
pub mod Call
pub mod Refusals
pub mod Code
