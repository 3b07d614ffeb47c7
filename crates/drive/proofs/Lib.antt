pub mod Law
pub mod Hoare
pub mod Frame
pub mod Blame
pub mod Stack
