pub mod Export
pub mod Compared
