-- What the paper says of vocabularies: what acceptance gives, what records say, the chain, the atoms.
pub mod Accepted
pub mod Constructs
pub mod Following
pub mod Chains
pub mod Ranks
pub mod Bounds
pub mod Growth
