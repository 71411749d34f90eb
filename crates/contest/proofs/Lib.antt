pub mod Tests
pub mod Winning
pub mod Steps
pub mod Parting
pub mod Closing
pub mod Telling
pub mod Awarding
pub mod Decided
