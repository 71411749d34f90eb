pub mod Climbs
pub mod Nearest
pub mod Rungs
pub mod Decided
