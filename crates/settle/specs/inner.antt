pub mod Read
pub mod Rows
