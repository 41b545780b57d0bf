-- What the paper says of columns: literals, when a column holds, the Skolem functions.
pub mod Literals
pub mod Holding
pub mod Instances
pub mod Skolem
pub mod Owners
