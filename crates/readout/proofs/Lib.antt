pub mod Offered
pub mod Earlier
pub mod Decided
