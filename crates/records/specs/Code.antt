-- What only the code computes with. No promise of a call speaks of it.
pub mod Fields
pub mod Kinds
pub mod Layout
