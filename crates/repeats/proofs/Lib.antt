pub mod Failing
pub mod Fresh
pub mod Flagged
pub mod Marked
pub mod Decided
