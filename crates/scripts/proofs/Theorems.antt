-- What the paper says of scripts: what the form gives, runs and derivations, soundness, the script check.
pub mod Form
mod Tests
mod Steps
mod Runs
mod Derivations
mod Soundness
pub mod Scripts
