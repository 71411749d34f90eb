pub mod Stopping
pub mod Sharing
pub mod Contending
pub mod Given
pub mod Holding
pub mod Tenths
pub mod Outcome
pub mod Decided
