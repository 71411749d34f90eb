pub mod Exports
mod Writing
pub mod Decided
pub mod Comparisons
pub mod Conversions
