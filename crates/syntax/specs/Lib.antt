pub mod Numbers
pub mod Symbols
