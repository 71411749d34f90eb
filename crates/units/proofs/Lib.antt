pub mod Conversions
pub mod Decided
