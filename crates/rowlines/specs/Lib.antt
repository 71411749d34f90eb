pub mod RowWords
pub mod Levels
pub mod Division
pub mod Rows
pub mod Turn
pub mod Table
pub mod inner
