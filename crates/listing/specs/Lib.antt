pub mod Listed
pub mod inner
