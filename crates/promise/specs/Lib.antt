pub mod Sequences
pub mod Promise
pub mod Calls
pub mod Time
