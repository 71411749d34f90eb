pub mod Drafts
pub mod Alone
pub mod Rooms
