pub mod Listings
pub mod Reread
pub mod Decided
