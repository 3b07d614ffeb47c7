pub mod Values
pub mod Operators
