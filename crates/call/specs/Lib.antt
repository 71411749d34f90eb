pub mod Answer
pub mod Demands
pub mod Losers
pub mod Steps
pub mod inner
