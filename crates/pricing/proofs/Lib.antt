pub mod Agree
pub mod Decided
