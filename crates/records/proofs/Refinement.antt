-- That the code computes the definitions: rows 4 to 7 by the fields of a record; the marks made along the chain.
pub mod Marks
pub mod Rows
