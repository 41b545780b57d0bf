-- Theorems is what the crates above may use.
mod Refinement
pub mod Theorems
