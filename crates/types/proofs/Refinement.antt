-- That the code computes the definitions: truth rules, the served test by words, rounds, answers.
pub mod TruthRules
pub mod Restrictions
mod Signed
mod Words
mod Allowed
mod Served
pub mod TypeData
pub mod Rounds
pub mod Outcomes
