-- Each call is its table (Tables), from which its answers are bounded (Bounds); what is shown apart has no script (Denials); the
-- demands (Demands), the promises of the requests (Writing, Promises), what the calls return (Returns), the samples (Samples).
mod Tables
pub mod Bounds
mod Denials
pub mod Demands
mod Writing
pub mod Promises
pub mod Returns
pub mod Samples
