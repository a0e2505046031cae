pub mod Explain
pub mod Code
