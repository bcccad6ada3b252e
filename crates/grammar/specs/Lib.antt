pub mod Faults
pub mod Slots
pub mod Items
pub mod Language
