pub mod Sames
pub mod Walks
pub mod BookWalks
pub mod Compared
pub mod Applying
pub mod Theorem
