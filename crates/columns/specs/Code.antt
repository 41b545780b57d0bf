-- What only the code computes with: literals as numbers, and what the code's types stand for. No promise of a call speaks of it.
pub mod Packed
pub mod Kept
