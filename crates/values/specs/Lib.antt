pub mod Values
pub mod Head
pub mod Place
pub mod Refusals
pub mod Contents
pub mod inner
