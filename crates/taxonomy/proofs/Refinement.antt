-- That the code computes the definitions: the names, their meets, and the table made of them.
pub mod Names
pub mod Meets
pub mod Broader
pub mod Table
pub mod Outcomes
