pub mod Commits
pub mod Decided
