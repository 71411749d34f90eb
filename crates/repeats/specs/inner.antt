pub mod Flags
pub mod Repeats
