pub mod Turns
pub mod Offers
pub mod Firsts
pub mod Decided
