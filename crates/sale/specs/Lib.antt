pub mod Auction
pub mod Payment
pub mod inner
