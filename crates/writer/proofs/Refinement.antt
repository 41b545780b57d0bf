-- What the code checks, what it leaves in the buffer, and what it answers.
pub mod Checks
pub mod Buffer
pub mod Counting
pub mod Calls
