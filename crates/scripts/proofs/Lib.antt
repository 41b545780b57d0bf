-- Proofs that belong to no one function; those of a function stand in the folder of its module.
mod Laws
pub mod Theorems
mod Refinement
mod Invariants
