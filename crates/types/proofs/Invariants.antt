-- One turn of each of the code's loops, over plain values.
pub mod Zeta
pub mod Elimination
pub mod Answers
