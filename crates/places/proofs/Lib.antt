pub mod Puts
pub mod Fields
pub mod Rows
pub mod Decided
