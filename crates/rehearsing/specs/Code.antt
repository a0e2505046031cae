pub mod Lanes
pub mod Tracks
pub mod Events
