pub mod Contested
pub mod Rowed
pub mod Columned
pub mod Contained
pub mod Worked
pub mod Decided
