pub mod Column
pub mod Columns
pub mod Ordered
pub mod Sides
