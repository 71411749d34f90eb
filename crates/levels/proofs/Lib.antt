pub mod Stops
pub mod Reaching
pub mod Decided
