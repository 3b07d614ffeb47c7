pub mod Descents
pub mod Follows
pub mod Openings
pub mod Summed
pub mod Walked
pub mod Kept
