-- Generic laws: of tests, checks in order, searches, lists, tables, numbers by their bits and ranges of kinds.
pub mod Tests
pub mod Checks
pub mod Search
pub mod Lists
pub mod Parts
pub mod Below
pub mod Sets
pub mod Bits
pub mod Width
pub mod Filling
pub mod Kinds
pub mod Listing
pub mod InOrder
pub mod Ranges
