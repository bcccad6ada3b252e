pub mod Lists
pub mod Marking
pub mod Joining
