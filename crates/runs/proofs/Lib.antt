pub mod Runs
pub mod Answers
pub mod Determined
pub mod Answered
pub mod Widths
pub mod Sizes
