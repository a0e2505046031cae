pub mod Lives
pub mod Conduct
