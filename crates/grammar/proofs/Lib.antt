pub mod Through
pub mod Accepts
pub mod Complete
pub mod Agrees
pub mod Sits
pub mod Cuts
