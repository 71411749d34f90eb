pub mod Sum
pub mod Nearest
pub mod Largest
pub mod Filled
pub mod Lists
pub mod Orders
