pub mod Points
pub mod Shape
