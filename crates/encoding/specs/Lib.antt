pub mod Numbers
pub mod Encode
pub mod Widths
pub mod inner
