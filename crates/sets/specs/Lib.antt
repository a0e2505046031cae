pub mod Sets
pub mod TaskSets
pub mod Families
pub mod Choice
pub mod Code
