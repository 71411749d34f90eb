pub mod Missing
pub mod Refused
pub mod Stated
