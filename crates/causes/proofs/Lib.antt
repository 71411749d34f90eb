pub mod Passes
pub mod Agreeing
pub mod Found
pub mod Broken
pub mod Decided
