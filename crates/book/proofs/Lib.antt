pub mod Stages
pub mod Unpriced
pub mod Accepted
pub mod Editions
pub mod Decided
