pub mod Numbers
pub mod Moves
pub mod Schedules
pub mod Shapes
pub mod Refusals
pub mod Machine
pub mod History
pub mod Laws
