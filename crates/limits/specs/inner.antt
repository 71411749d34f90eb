pub mod Parameters
pub mod Offers
pub mod Rows
