pub mod Narrowing
pub mod Stopping
pub mod Decided
