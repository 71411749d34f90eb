pub mod Puts
pub mod Fills
pub mod DigitCounts
pub mod Numbers
pub mod Examples
pub mod Decided
