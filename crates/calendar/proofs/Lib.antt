pub mod Days
pub mod Centuries
pub mod Decided
