pub mod Rows
pub mod Lowest
pub mod Pairs
