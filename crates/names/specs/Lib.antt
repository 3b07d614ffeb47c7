pub mod Faults
pub mod Scopes
pub mod Room
pub mod State
pub mod Rules
pub mod Laws
