-- What only the code computes with. No promise of the call speaks of it.
pub mod Meets
pub mod Names
pub mod Order
