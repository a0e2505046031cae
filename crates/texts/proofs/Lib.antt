pub mod Given
pub mod Answers
pub mod Listings
pub mod Sizes
pub mod Back
pub mod Determined
