pub mod Walks
pub mod Cells
pub mod Places
pub mod Rows
pub mod Wholes
pub mod Listings
pub mod Determined
pub mod Lines
