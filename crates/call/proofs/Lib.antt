mod Ready
pub mod Calls
pub mod Empty
pub mod Outcomes
pub mod Decided
pub mod Refusing
pub mod Demands
pub mod Editions
pub mod Nothing
pub mod Blocks
pub mod OneMore
pub mod Shared
pub mod SameSales
pub mod Losers
pub mod Together
pub mod Steps
pub mod EitherEdition
