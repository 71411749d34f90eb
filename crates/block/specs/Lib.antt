pub mod Bytes
pub mod Check
pub mod Running
pub mod inner
