pub mod Put
pub mod Number
pub mod Mark
pub mod Form
pub mod Shown
pub mod Parts
pub mod inner
