-- Generic laws: rows of a table as checks.
pub mod Rows
