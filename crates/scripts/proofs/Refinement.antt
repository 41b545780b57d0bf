-- That the code computes the definitions: records, terms and literals as numbers, frames, steps, answers.
pub mod Lines
pub mod Origins
pub mod Terms
mod Literals
pub mod Extensions
mod Columns
mod Agreement
pub mod Frames
pub mod Stepping
pub mod Starting
pub mod Outcomes
