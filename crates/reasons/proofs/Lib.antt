pub mod Stops
pub mod Shared
pub mod Decided
