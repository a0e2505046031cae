pub mod Rehearse
pub mod Code
