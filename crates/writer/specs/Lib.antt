-- Slip 4 of paper 02, "A vocabulary writer", in its order: Additions (what is added, the bytes with it, and what reading shows)
-- and Calls (refusals, the new length, the buffer). What slip 5 says of the writer stands with each.
-- Code has what only the code computes with.
pub mod Additions
pub mod Calls
pub mod Code
