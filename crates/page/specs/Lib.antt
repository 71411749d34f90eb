pub mod Page
pub mod Explained
