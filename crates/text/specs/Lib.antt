pub mod Put
pub mod Number
pub mod inner
