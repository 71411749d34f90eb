pub mod Together
pub mod Row
pub mod Table
pub mod Rows
pub mod inner
