pub mod Stop
pub mod inner
