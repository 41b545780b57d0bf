pub mod Cases
pub mod Heads
mod Steps
