pub mod Rows
pub mod Asks
pub mod Reach
pub mod Stop
