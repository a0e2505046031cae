-- Demand 3, proved.
pub mod Following
pub mod Bits
pub mod Safe
pub mod Test
pub mod States
pub mod Course
pub mod Waits
pub mod Ends
pub mod Times
pub mod Demand3
pub mod Time
pub mod Calls
