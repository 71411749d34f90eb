pub mod Cause
pub mod Rules
