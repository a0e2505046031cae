pub mod Bounds
pub mod Laws
pub mod Turns
pub mod Answers
pub mod Found
pub mod Shares
