pub mod Converts
