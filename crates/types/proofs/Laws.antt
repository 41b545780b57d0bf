-- Generic laws: the zeta transform, sums over the subsets of a word.
pub mod Zeta
