-- What the library promises, to be read first: Demands (the three demands), Promises (paper 01's of the survivors, and those
-- of the requests of paper 02), Table (the paper's table of refusals, row by row), Limits (the papers' figures), Returns (the
-- demands and promises over what the calls return), Samples (those of the paper). The contract of `hold` (src/lib.rt) has
-- every statement.
pub mod Table
pub mod Limits
pub mod Demands
pub mod Promises
pub mod Returns
pub mod Samples
