-- Proofs that belong to no one function; those of a function stand in the folder of its module.
pub mod Theorems
mod Refinement
