pub mod Euclid
pub mod Multiples
pub mod Determined
pub mod Within
