-- What the contracts of `lent` and of the programs over stored cases cite.
pub mod Cases
pub mod Told
