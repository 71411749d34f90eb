pub mod Contending
