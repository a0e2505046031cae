pub mod Limits
pub mod Tasks
pub mod Refused
pub mod Good
pub mod Reasons
