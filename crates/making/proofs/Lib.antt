pub mod Fields
pub mod Zeros
pub mod Decided
