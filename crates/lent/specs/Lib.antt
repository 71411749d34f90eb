pub mod Wrote
pub mod inner
