pub mod Cuts
pub mod Read
pub mod Settled
pub mod Numbers
pub mod Asked
pub mod Spelt
pub mod Fronted
pub mod Backs
