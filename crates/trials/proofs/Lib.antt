pub mod Trials
pub mod Sizes
pub mod Answers
pub mod Determined
