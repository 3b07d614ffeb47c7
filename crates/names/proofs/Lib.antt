pub mod Opened
pub mod Newest
pub mod Laws
pub mod Scoping
pub mod Writing
pub mod Keeping
