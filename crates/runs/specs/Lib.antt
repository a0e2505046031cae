pub mod Ticks
pub mod Code
