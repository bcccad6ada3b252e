pub mod Yard
pub mod Cases
