pub mod Act
pub mod Drive
pub mod Hoare
pub mod Frame
pub mod Blame
pub mod Stack
