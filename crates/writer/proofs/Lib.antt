pub mod Raw
pub mod Placed
pub mod Blocks
pub mod Books
pub mod Ranges
pub mod Decided
