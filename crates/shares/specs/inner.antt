pub mod Out
pub mod Stages
pub mod Halves
