pub mod Other
pub mod Converted
pub mod Refused
mod Putting
pub mod Told
pub mod Made
pub mod Converting
pub mod Between
pub mod Decided
