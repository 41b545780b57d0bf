-- What only the code computes with. No promise of a call speaks of it.
pub mod Kinds
pub mod Layout
pub mod Codes
pub mod Index
pub mod Machine
pub mod Numbered
pub mod Tested
pub mod Ready
