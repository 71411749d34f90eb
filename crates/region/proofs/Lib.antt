pub mod Regions
pub mod Decided
