pub mod Grids
pub mod Rows
pub mod AddsUp
pub mod Sizes
pub mod Sides
pub mod Determined
