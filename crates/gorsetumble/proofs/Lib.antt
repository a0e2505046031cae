pub mod Board
pub mod BoardContracts
pub mod Contracts
pub mod Demands
pub mod Determined
pub mod FromTexts
