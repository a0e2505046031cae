pub mod Multiple
pub mod Rehearsal
pub mod Bench
