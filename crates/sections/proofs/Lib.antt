pub mod Parts
pub mod Last
pub mod Places
pub mod Passing
pub mod Decided
