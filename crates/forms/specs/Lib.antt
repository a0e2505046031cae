pub mod Bytes
pub mod Digits
pub mod Forms
pub mod Reads
pub mod Reader
pub mod Rightly
