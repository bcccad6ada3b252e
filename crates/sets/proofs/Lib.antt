pub mod LowestOnes
pub mod TwoLevels
pub mod Pairing
