-- One turn of the loops: of the walk along the chain, and of the index of terms.
pub mod Indexing
pub mod Walk
