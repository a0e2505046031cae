pub mod Judged
pub mod Shares
