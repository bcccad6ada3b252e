pub mod Turns
pub mod Exactness
pub mod Adding
