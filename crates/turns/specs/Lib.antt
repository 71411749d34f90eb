pub mod Order
pub mod Turn
pub mod inner
