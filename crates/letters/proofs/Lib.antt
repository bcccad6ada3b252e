pub mod Heads
pub mod Named
pub mod Near
pub mod Local
