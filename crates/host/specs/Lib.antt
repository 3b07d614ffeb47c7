pub mod Numbers
pub mod Literals
pub mod Meaning
