-- Paper 02, slip 1, "Nearest broader names": Nearest (what the entries are to say), Taxonomy (the names, which are broader, the
-- bytes written, the call's answer).
-- Code has what only the code computes with.
pub mod Nearest
pub mod Taxonomy
pub mod Code
