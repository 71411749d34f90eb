pub mod Price
pub mod inner
