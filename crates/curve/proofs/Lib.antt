pub mod Lines
pub mod Fractions
pub mod Shapes
pub mod Prices
pub mod Exacts
pub mod Slopes
pub mod Decided
