-- Vocabularies that differ in edition look alike (Editions); those that look alike have the same truths (Truth) and survivors
-- (Survivors), so the same comparisons (Comparison) and taxonomies (Taxonomy), and scripts are judged the same by them (Scripts).
pub mod Editions
pub mod Conversion
pub mod Truth
pub mod Survivors
pub mod Comparison
pub mod Taxonomy
pub mod Scripts
