pub mod Shows
pub mod Exported
pub mod Decided
