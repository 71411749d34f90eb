pub mod Prices
pub mod Ladder
pub mod inner
