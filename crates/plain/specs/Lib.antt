pub mod Structs
pub mod Given
pub mod Plotted
