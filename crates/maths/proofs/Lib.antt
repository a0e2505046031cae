-- Laws that the proofs of several crates use.
pub mod Sums
pub mod Tests
pub mod Lists
pub mod Widths
pub mod Signed
pub mod Tasks
pub mod Determined
pub mod Arrays
pub mod Padded
pub mod Results
