pub mod Refused
pub mod Wrong
pub mod Missing
pub mod inner
