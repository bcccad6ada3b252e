pub mod Reports
pub mod Lines
pub mod Outputs
pub mod Inputs
pub mod Diagnosis
pub mod Programs
