pub mod Layout
pub mod Form
pub mod Read
pub mod inner
