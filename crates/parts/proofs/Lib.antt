pub mod RowParts
pub mod Decided
