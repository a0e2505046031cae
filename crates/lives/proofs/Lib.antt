pub mod Steps
pub mod Window
pub mod Weights
pub mod OnTime
pub mod InTime
pub mod Ages
pub mod Base
