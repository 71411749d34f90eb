pub mod Following
pub mod Decided
