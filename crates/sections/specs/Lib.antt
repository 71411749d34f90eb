pub mod Blocks
pub mod Section
pub mod inner
