pub mod Steps
pub mod Boards
pub mod Grid
pub mod Together
pub mod Stored
pub mod Exchange
pub mod Damage
pub mod Decided
