pub mod Entries
pub mod Tables
pub mod Lines
pub mod Pages
