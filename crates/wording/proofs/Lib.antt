pub mod Showing
pub mod Worded
pub mod Decided
