pub mod Lists
pub mod Parts
pub mod Changes
pub mod Meaning
