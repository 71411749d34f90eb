pub mod Found
pub mod Starred
