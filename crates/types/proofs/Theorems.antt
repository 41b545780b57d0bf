-- What the paper says of types: truth and meaning, type elimination, the canonical model, the comparison.
pub mod Truth
pub mod Witnesses
pub mod Survivors
mod ElementTypes
mod CanonicalModel
pub mod ReadBack
pub mod Inclusions
pub mod Verdicts
pub mod Comparison
