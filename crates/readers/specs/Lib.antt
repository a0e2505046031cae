pub mod Places
pub mod Inputs
pub mod Code
