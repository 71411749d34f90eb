pub mod Put
pub mod Rows
