-- Proofs that belong to no one function; those of a function stand in the folder of its name.
mod Laws
pub mod Theorems
