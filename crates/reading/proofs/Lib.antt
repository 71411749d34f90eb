pub mod Tests
pub mod Puts
pub mod Holding
pub mod HeldRows
pub mod Found
pub mod Decided
