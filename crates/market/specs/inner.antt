pub mod Bracket
pub mod Cleared
