pub mod Contest
pub mod Sieve
pub mod Nearest
pub mod Search
pub mod Award
