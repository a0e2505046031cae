pub mod Jobs
pub mod Fresh
pub mod Conditions
pub mod Steps
pub mod Tick
pub mod Code
