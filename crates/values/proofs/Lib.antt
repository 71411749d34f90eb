pub mod Firsts
pub mod Table
pub mod Decided
