pub mod Parts
pub mod Divides
