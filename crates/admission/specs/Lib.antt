pub mod Test
pub mod Answers
pub mod Shares
pub mod Code
