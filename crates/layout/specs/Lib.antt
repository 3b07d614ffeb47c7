pub mod First
pub mod Layout
pub mod Verdict
pub mod WellFormed
pub mod Words
