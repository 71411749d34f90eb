pub mod Works
pub mod inner
