pub mod Texts
pub mod Words
