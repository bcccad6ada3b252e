pub mod Bytes
pub mod Blanks
pub mod Tokens
pub mod Extents
pub mod Faults
