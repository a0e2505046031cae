pub mod Written
pub mod Sinks
pub mod Signed
pub mod Outputs
pub mod Code
