-- Paper 02: Alike (vocabularies that the calls on types, taxonomies, columns and scripts cannot tell apart), Editions (slip 5,
-- "vocabularies that differ only in edition").
pub mod Alike
pub mod Editions
