-- The numbers that the calls from C answer, and what their bits say.
pub mod Packed
pub mod Unpacked
pub mod Version
