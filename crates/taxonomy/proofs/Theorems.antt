-- What the paper says of names: which they are (Names), which are broader in every model (Broader), what the entries and the
-- bytes of the taxonomy say (Entries), where the call answers (Answers).
pub mod Names
pub mod Broader
pub mod Entries
pub mod Answers
