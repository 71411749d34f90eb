pub mod Same
pub mod Comparison
pub mod inner
