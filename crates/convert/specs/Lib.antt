pub mod Convert
pub mod Converted
pub mod inner
