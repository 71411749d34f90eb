pub mod Ground
pub mod Sales
pub mod SaleLaws
pub mod Payments
pub mod Decided
