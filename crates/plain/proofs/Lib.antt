pub mod Shows
pub mod Decided
