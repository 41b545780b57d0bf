-- Paper 01, "Columns": Literals (literals, written-out terms), Columns (the columns of each owner), Holding (when a column holds
-- in an interpretation). Code has what only the code computes with.
pub mod Literals
pub mod Columns
pub mod Holding
pub mod Code
