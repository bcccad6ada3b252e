pub mod Zeros
pub mod Strangers
