pub mod Stop
pub mod Share
pub mod inner
