-- Paper 01, "Scripts" and rows 13 to 25, in the paper's order: Steps (whatever their terms are), Format (bytes, what a record
-- says, terms, the chain), Form (rows 13 to 19), Calculus (derivations by Definition 10), Run (rows 20 to 25 along the chain,
-- over any literals; the script check). Code has what only the code computes with.
pub mod Steps
pub mod Format
pub mod Form
pub mod Calculus
pub mod Run
pub mod Code
