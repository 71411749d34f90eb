pub mod Facts
pub mod Levels
pub mod Division
pub mod Accepted
