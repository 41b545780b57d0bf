-- What only the code computes with. No promise of a call speaks of it.
pub mod Rules
pub mod Words
pub mod Settling
pub mod Elimination
