pub mod Read
pub mod Facts
