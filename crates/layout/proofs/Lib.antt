pub mod Accepted
pub mod Bodies
pub mod Bytes
pub mod Firsts
pub mod Refusals
pub mod Tests
