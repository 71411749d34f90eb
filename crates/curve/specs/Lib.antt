pub mod Points
pub mod Shape
pub mod Price
pub mod Exact
pub mod inner
