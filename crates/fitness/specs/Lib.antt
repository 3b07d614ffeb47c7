pub mod Fit
pub mod Reasons
