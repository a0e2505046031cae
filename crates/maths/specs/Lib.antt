pub mod Rules
pub mod Sums
pub mod Tasks
pub mod Padded
