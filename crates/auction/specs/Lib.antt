pub mod Offers
pub mod Clearing
pub mod Shares
pub mod Settlement
pub mod Surplus
pub mod Demands
pub mod Losers
