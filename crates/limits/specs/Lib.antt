pub mod Parameters
pub mod Given
pub mod Offers
pub mod Ranges
pub mod Clearable
pub mod inner
