-- What the bits of the numbers say that the calls answer.
pub mod Unpacked
