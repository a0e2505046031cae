pub mod Given
pub mod Admit
pub mod Verdict
pub mod Back
pub mod Code
