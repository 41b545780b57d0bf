-- That the code computes the definitions: columns by kind, literals as numbers.
pub mod Groups
