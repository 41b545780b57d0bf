-- The bytes with an addition, the calls' outcomes, and what reading shows.
pub mod Grown
pub mod Outcomes
pub mod Reading
