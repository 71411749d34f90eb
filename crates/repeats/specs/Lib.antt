pub mod Repeats
pub mod inner
