pub mod Demands
pub mod FromTexts
pub mod Board
pub mod Code
