pub mod Telling
pub mod Answered
pub mod Decided
