pub mod Stated
pub mod Sold
pub mod Points
pub mod Total
pub mod inner
