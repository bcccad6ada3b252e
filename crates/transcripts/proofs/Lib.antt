pub mod Enoughs
pub mod Growth
pub mod Turns
