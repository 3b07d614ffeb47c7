pub mod Rules
pub mod Below
pub mod Summaries
pub mod Written
